use Rattle.std.proofs.Common.{◌≢◌, take, Contains, ◌⊎◌}
use Rattle.ygg_cnf_set.specs.LiteralSet.{InSet, IsSetOf}
use Rattle.ygg_cnf_set.proofs.packed_set.resolve.Given as goal

abbrev pub invariant-loop-lit : goal.invariant-loop-lit
invariant-loop-lit l = IsSetOf l.seen (λ y. InSet l.initial.seen y ⊎ (Contains (take l.lit-index l.clause) y × (y ≢ l.left_out)))
