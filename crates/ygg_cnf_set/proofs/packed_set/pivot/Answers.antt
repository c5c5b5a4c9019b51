use Rattle.std.proofs.Common.{◌≡◌, get_or, subst, sym, ap, ◌∙◌}
use Rattle.std.proofs.lemmas.Bool.{false≢true}
use Rattle.ygg_cnf.specs.Literals.{complement}
use Rattle.ygg_cnf.proofs.Lits.{same_from_ne, differ_from_ne}
use Rattle.ygg_cnf_set.specs.LiteralSet.{InSet}
use Rattle.ygg_cnf_set.proofs.LiteralSetLemmas.{first_pivot, same_pivot, two_pivots, keep_pivot, pivot_of_all}
use Rattle.ygg_cnf_set.proofs.packed_set.pivot.Goals as goal
use Rattle.ygg_cnf_set.proofs.packed_set.pivot.Goals.{then-contains+in-None, then-contains+in-Some+else-ne, else-contains}

pub loop-lit-preserved : goal.loop-lit-preserved
loop-lit-preserved c =
    let is : c.complement-other.result ≡ complement (get_or c.args.clause.now c.loop-lit.lit-index c.lit-item.result)
    = c.complement-other.ensures ∙ ap complement (c.lit-lit.ensures ∙ c.lit-item.is) in
    elim c.if-contains.branch [
      | then-contains+in-None w ↦
          rw (w.found-is, is) (first_pivot (InSet c.args.seen.now) c.args.clause.now c.loop-lit.lit-index _ c.loop-lit-test.true
          (rw w.in-None.is at c.loop-lit.invariant) (rw is at (c.contains.ensures.0 w.if-contains.true)))
      | then-contains+in-Some+else-ne w ↦
          rw w.found-is (same_pivot (InSet c.args.seen.now) c.args.clause.now c.loop-lit.lit-index c.lit-item.result w.in-Some.first c.loop-lit-test.true
          (rw w.in-Some.is at c.loop-lit.invariant) (λ _. sym is
          ∙ same_from_ne c.complement-other.result w.in-Some.first w.ne.result w.ne.ensures w.if-ne.false))
      | else-contains w ↦
          rw w.found-is (keep_pivot (InSet c.args.seen.now) c.args.clause.now c.loop-lit.lit-index c.lit-item.result c.loop-lit.found c.loop-lit-test.true
          (λ m. false≢true (sym w.if-contains.false ∙ c.contains.ensures.1 (subst (InSet c.args.seen.now) (sym is) m)))
          c.loop-lit.invariant)
    ]

pub returns : goal.returns
returns c = pivot_of_all (InSet c.args.seen.now) c.args.clause.now c.loop-lit.lit-index c.loop-lit.found c.loop-lit-test.false c.loop-lit.invariant

pub returns-then-ne : goal.returns-then-ne
returns-then-ne c =
    let is : c.complement-other.result ≡ complement (get_or c.args.clause.now c.loop-lit.lit-index c.lit-item.result)
    = c.complement-other.ensures ∙ ap complement (c.lit-lit.ensures ∙ c.lit-item.is) in
    two_pivots (InSet c.args.seen.now) c.args.clause.now c.loop-lit.lit-index c.lit-item.result c.in-Some.first c.loop-lit-test.true
    (rw c.in-Some.is at c.loop-lit.invariant) (rw is at (c.contains.ensures.0 c.if-contains.true))
    (λ e. differ_from_ne c.complement-other.result c.in-Some.first c.ne.result c.ne.ensures c.if-ne.true (is ∙ e))
