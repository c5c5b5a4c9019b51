use Rattle.std.proofs.Common.{◌≡◌, take}
use Rattle.ygg_chain.specs.Places.{clause_at}
use Rattle.ygg_solver.proofs.names.name_clause.Given as goal

abbrev pub invariant-loop-lit : goal.invariant-loop-lit
invariant-loop-lit l = l.named ≡ clause_at l.variables (take l.lit-index l.clause)
