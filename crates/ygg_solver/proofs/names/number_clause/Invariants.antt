use Rattle.std.proofs.Common.{◌≡◌, ℕ, List, take, ◌++◌, All}
use Rattle.ygg_chain.specs.Places.{IsPlaced, clause_at}
use Rattle.ygg_solver.proofs.names.number_clause.Given as goal

abbrev pub invariant-loop-lit : goal.invariant-loop-lit
invariant-loop-lit l = record {
  placed : All (IsPlaced l.variables) l.kept;
  same : clause_at l.variables l.kept ≡ take l.lit-index l.clause;
  grows : (more : List ℕ) × (l.variables ≡ l.initial.variables ++ more);
}
