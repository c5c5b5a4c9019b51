use Rattle.std.proofs.Common.{take, IsTrue, ◌↔◌}
use Rattle.ygg_cnf.specs.declared.lit.Lit.{Lit}
use Rattle.ygg_cnf_set.specs.LiteralSet.{InSet, IsSetOf}
use Rattle.ygg_chain.specs.Held.{IsNamed}
use Rattle.ygg_chain.proofs.checker.take_named.Given as goal

abbrev pub invariant-loop-id : goal.invariant-loop-id
invariant-loop-id l = record {
  none : IsTrue l.none ↔ ((y : Lit) → InSet l.initial.seen y → IsNamed l.store.clauses (take l.id-index l.chain) y → ⊥);
  taken : IsSetOf l.seen (λ y. InSet l.initial.seen y × (IsNamed l.store.clauses (take l.id-index l.chain) y → ⊥));
}
