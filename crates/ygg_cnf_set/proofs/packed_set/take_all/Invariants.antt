use Rattle.std.proofs.Common.{take, Contains, IsTrue, ◌↔◌}
use Rattle.ygg_cnf.specs.declared.lit.Lit.{Lit}
use Rattle.ygg_cnf_set.specs.LiteralSet.{InSet, IsSetOf}
use Rattle.ygg_cnf_set.proofs.packed_set.take_all.Given as goal

abbrev pub invariant-loop-lit : goal.invariant-loop-lit
invariant-loop-lit l = record {
  none : IsTrue l.none ↔ ((y : Lit) → InSet l.initial.seen y → Contains (take l.lit-index l.clause) y → ⊥);
  taken : IsSetOf l.seen (λ y. InSet l.initial.seen y × (Contains (take l.lit-index l.clause) y → ⊥));
}
