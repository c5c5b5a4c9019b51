use Rattle.std.proofs.Common.{⊎_elim, inl, inr, ◌∙◌}
use Rattle.ygg_cnf_set.proofs.LiteralSetLemmas.{insert_more}
use Rattle.ygg_cnf_set.proofs.ListLemmas.{contains_all}
use Rattle.ygg_cnf_set.proofs.packed_set.insert_all.Goals as goal

pub loop-lit-preserved : goal.loop-lit-preserved
loop-lit-preserved c =
    insert_more _ _ c.args.clause.now c.loop-lit.lit-index c.lit-item.result _ c.loop-lit-test.true c.loop-lit.invariant
    (rw (c.lit.ensures ∙ c.lit-item.is) at c.insert.ensures)

pub returns : goal.returns
returns c y =
    let all = contains_all c.args.clause.now c.loop-lit.lit-index c.loop-lit-test.false y in (
      (λ m. ⊎_elim (λ b. inl b) (λ d. inr (all.0 d)) ((c.loop-lit.invariant y).0 m)),
      (λ m. (c.loop-lit.invariant y).1 (⊎_elim (λ b. inl b) (λ d. inr (all.1 d)) m)),
    )
