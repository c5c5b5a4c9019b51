use Rattle.std.proofs.Common.{⊎_elim, inl, inr, sym, ◌∙◌}
use Rattle.ygg_cnf.proofs.Lits.{same_from_ne, differ_from_ne}
use Rattle.ygg_cnf_set.proofs.LiteralSetLemmas.{insert_more_but, keep_more_but}
use Rattle.ygg_cnf_set.proofs.ListLemmas.{contains_all}
use Rattle.ygg_chain.proofs.counting.resolve.Goals as goal
use Rattle.ygg_chain.proofs.counting.resolve.Goals.{then-ne, else-ne}

pub loop-lit-preserved : goal.loop-lit-preserved
loop-lit-preserved c =
    let here = c.lit-lit.ensures ∙ c.lit-item.is in
    elim c.if-ne.branch [
      | then-ne w ↦
          rw (w.seen-is, w.count-is) (record {
            set = insert_more_but _ _ c.args.clause.now c.loop-lit.lit-index c.lit-item.result _ _ c.loop-lit-test.true c.loop-lit.invariant.set
                (λ e. differ_from_ne _ c.complement-left_out.result c.ne.result c.ne.ensures w.if-ne.true (here ∙ e)) (rw here at w.insert.ensures.set);
            counted = w.insert.ensures.counted;
          })
      | else-ne w ↦
          rw (w.seen-is, w.count-is) (record {
            set = keep_more_but _ _ c.args.clause.now c.loop-lit.lit-index c.lit-item.result _ c.loop-lit-test.true c.loop-lit.invariant.set
                (sym here ∙ same_from_ne _ c.complement-left_out.result c.ne.result c.ne.ensures w.if-ne.false);
            counted = c.loop-lit.invariant.counted;
          })
    ]

pub returns-clause-set : goal.returns-clause-set
returns-clause-set c y =
    let all = contains_all c.args.clause.now c.loop-lit.lit-index c.loop-lit-test.false y in
    let e = c.complement-left_out.ensures in (
      (λ m. ⊎_elim (λ b. inl ((c.remove.ensures.set y).0 b)) (λ d. inr (all.0 d.0, λ q. d.1 (q ∙ sym e))) ((c.loop-lit.invariant.set y).0 m)),
      (λ m. (c.loop-lit.invariant.set y).1 (⊎_elim (λ b. inl ((c.remove.ensures.set y).1 b)) (λ d. inr (all.1 d.0, λ q. d.1 (q ∙ e))) m)),
    )
