use Rattle.std.proofs.Common.{⊎_elim, inl, inr, ◌∙◌}
use Rattle.ygg_cnf_set.proofs.LiteralSetLemmas.{insert_more}
use Rattle.ygg_cnf_set.proofs.ListLemmas.{contains_all}
use Rattle.ygg_chain.proofs.counting.insert_all.Goals as goal

pub loop-lit-preserved : goal.loop-lit-preserved
loop-lit-preserved c = record {
  set = insert_more _ _ c.args.clause.now c.loop-lit.lit-index c.lit-item.result _ c.loop-lit-test.true c.loop-lit.invariant.set
      (rw (c.lit.ensures ∙ c.lit-item.is) at c.insert.ensures.set);
  counted = c.insert.ensures.counted;
}

pub returns-clause-set : goal.returns-clause-set
returns-clause-set c y =
    let all = contains_all c.args.clause.now c.loop-lit.lit-index c.loop-lit-test.false y in (
      (λ m. ⊎_elim (λ b. inl b) (λ d. inr (all.0 d)) ((c.loop-lit.invariant.set y).0 m)),
      (λ m. (c.loop-lit.invariant.set y).1 (⊎_elim (λ b. inl b) (λ d. inr (all.1 d)) m)),
    )
