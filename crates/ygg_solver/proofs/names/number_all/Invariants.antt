use Rattle.std.proofs.Common.{◌≡◌, take, All}
use Rattle.ygg_chain.specs.Places.{IsPlaced, clauses_at}
use Rattle.ygg_solver.proofs.names.number_all.Given as goal

abbrev pub invariant-loop-clause : goal.invariant-loop-clause
invariant-loop-clause l = record {
  placed : All (All (IsPlaced l.variables)) l.kept.items;
  same : clauses_at l.variables l.kept.items ≡ take l.clause-index l.clause-items;
}
