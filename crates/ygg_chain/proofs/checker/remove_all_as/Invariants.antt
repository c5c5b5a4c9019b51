use Rattle.std.proofs.Common.{◌≡◌, take, Contains}
use Rattle.ygg_cnf.specs.declared.lit.Lit.{Lit}
use Rattle.ygg_chain.specs.Counts.{trues}
use Rattle.ygg_chain.specs.Places.{StandsFor}
use Rattle.ygg_cnf_set.specs.LiteralSet.{InSet, IsSetOf}
use Rattle.ygg_chain.proofs.checker.remove_all_as.Given as goal

abbrev pub invariant-loop-lit : goal.invariant-loop-lit
invariant-loop-lit l = record {
  left : IsSetOf l.seen (λ x. InSet l.initial.seen x × ((y : Lit) → Contains (take l.lit-index l.clause) y → StandsFor l.variables x y → ⊥));
  counted : l.count ≡ trues l.seen;
}
