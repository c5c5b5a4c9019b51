use Rattle.std.proofs.Common.{◌≡◌, take, drop, List, ◌↔◌, ◌⊎◌}
use Rattle.ygg_cnf.specs.declared.lit.Lit.{Lit}
use Rattle.ygg_cnf.specs.Derivations.{Resolves}
use Rattle.ygg_cnf_set.specs.LiteralSet.{InSet}
use Rattle.ygg_chain.specs.Counts.{trues}
use Rattle.ygg_chain.specs.Held.{Holds, InSetAs, IsNamed}
use Rattle.ygg_chain.proofs.checker.resolve_rest.Given as goal

abbrev pub invariant-loop-id : goal.invariant-loop-id
invariant-loop-id l = record {
  exact : (clause : List Lit) → Resolves (Holds l.store.variables l.store.clauses) (InSetAs l.store.variables l.initial.seen) l.ids clause
      ↔ Resolves (Holds l.store.variables l.store.clauses) (InSetAs l.store.variables l.seen) (drop l.id-index l.ids) clause;
  counted : l.count ≡ trues l.seen;
  named : (y : Lit) → InSet l.seen y → InSet l.initial.seen y ⊎ IsNamed l.store.clauses (take l.id-index l.ids) y;
}
