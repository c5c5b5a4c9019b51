use Rattle.std.proofs.Common.{◌≡◌, ◌∙◌, subst, sym, ⊎_elim}
use Rattle.ygg_cnf_set.proofs.ListLemmas.{contains_more, contains_all}
use Rattle.ygg_cnf.proofs.Lits.{same_from_ne}
use Rattle.ygg_watch.specs.Propagation.{IsFalse}
use Rattle.ygg_watch.proofs.visit.replacement.Goals.{else-not-is_false-via-then-not-is_false+else-ne, else-not-is_false-via-else-not-is_false}
use Rattle.ygg_watch.proofs.visit.replacement.Goals as goal

pub loop-lit-preserved : goal.loop-lit-preserved
loop-lit-preserved c y k d =
    let here = c.lit-lit.ensures ∙ c.lit-item.is in
    let trail = c.args.trail.now.entries.items in
    ⊎_elim (λ b. c.loop-lit.invariant y b d)
    (λ e. let same : y ≡ c.lit-lit.result = e ∙ sym here in elim c.else-not-is_false.branch [
      | else-not-is_false-via-then-not-is_false+else-ne w ↦ absurd
          (d (same ∙ same_from_ne _ c.args.other w.ne.result w.ne.ensures w.if-ne.false))
      | else-not-is_false-via-else-not-is_false w ↦ subst (IsFalse trail) (sym same) (c.is_false.ensures.0 w.if-not-is_false.false)
    ])
    ((contains_more c.args.clause.now c.loop-lit.lit-index c.lit-item.result c.loop-lit-test.true y).0 k)

pub returns-clause-none : goal.returns-clause-none
returns-clause-none c y k d = c.loop-lit.invariant y ((contains_all c.args.clause.now c.loop-lit.lit-index c.loop-lit-test.false y).1 k) d
