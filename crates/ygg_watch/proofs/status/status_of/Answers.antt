use Rattle.std.proofs.Common.{sym, subst, ◌∙◌, refl, Contains}
use Rattle.std.proofs.lemmas.Bool.{false≢true}
use Rattle.std.proofs.lemmas.List.Elements.{Contains-get_or}
use Rattle.ygg_cnf.proofs.Lits.{same_from_ne, differ_from_ne}
use Rattle.ygg_watch.specs.Propagation.{IsFalse}
use Rattle.ygg_watch.specs.Status.{IsFree}
use Rattle.ygg_watch.proofs.StatusLemmas.{free_of, part_false, part_first, part_same, all_false, is_unit}
use Rattle.ygg_watch.proofs.status.status_of.Goals.{then-not-is_false+in-None, then-not-is_false+in-Some+else-ne, else-not-is_false}
use Rattle.ygg_watch.proofs.status.status_of.Goals as goal

pub loop-lit-preserved : goal.loop-lit-preserved
loop-lit-preserved c =
    let here = c.lit-lit.ensures ∙ c.lit-item.is in
    let clause = c.args.clause.now in let trail = c.args.trail.now.entries.items in let i = c.loop-lit.lit-index in
    elim c.if-not-is_false.branch [
      | then-not-is_false+in-None w ↦ rw (w.free-is, here)
          (part_first clause trail i c.lit-item.result c.loop-lit-test.true (rw w.in-None.is at c.loop-lit.invariant)
          (subst (IsFree trail) here (free_of trail c.lit-lit.result (λ t. false≢true (sym c.if-is_true.false ∙ c.is_true.ensures.1 t))
          (λ f. false≢true (sym w.if-not-is_false.true ∙ c.is_false.ensures.1 f)))))
      | then-not-is_false+in-Some+else-ne w ↦ rw w.free-is
          (part_same clause trail i c.lit-item.result _ w.in-Some.first c.loop-lit-test.true (rw w.in-Some.is at c.loop-lit.invariant) refl
          (sym here ∙ same_from_ne _ w.in-Some.first w.ne.result w.ne.ensures w.if-ne.false))
      | else-not-is_false w ↦ rw w.free-is (part_false clause trail i c.lit-item.result _ c.loop-lit-test.true c.loop-lit.invariant
          (subst (IsFalse trail) here (c.is_false.ensures.0 w.if-not-is_false.false)))
    ]

pub returns-in-None-free : goal.returns-in-None-free
returns-in-None-free c = all_false c.args.clause.now c.args.trail.now.entries.items c.loop-lit.lit-index _ c.loop-lit-test.false c.loop-lit.invariant
    c.in-None-free.is

pub returns-in-Some-free : goal.returns-in-Some-free
returns-in-Some-free c = is_unit c.args.clause.now c.args.trail.now.entries.items c.loop-lit.lit-index _ _ c.loop-lit-test.false c.loop-lit.invariant
    c.in-Some-free.is

pub returns-then-ne : goal.returns-then-ne
returns-then-ne c =
    let here = c.lit-lit.ensures ∙ c.lit-item.is in
    let clause = c.args.clause.now in let trail = c.args.trail.now.entries.items in let i = c.loop-lit.lit-index in
    let first = c.loop-lit.invariant.found c.in-Some.first c.in-Some.is in (
      first.0,
      (
        subst (Contains clause) (sym here) (Contains-get_or clause i c.lit-item.result c.loop-lit-test.true),
        (
          λ e. differ_from_ne _ c.in-Some.first c.ne.result c.ne.ensures c.if-ne.true (sym e),
          (
            first.1,
            free_of trail _ (λ t. false≢true (sym c.if-is_true.false ∙ c.is_true.ensures.1 t))
                (λ f. false≢true (sym c.if-not-is_false.true ∙ c.is_false.ensures.1 f)),
          ),
        ),
      ),
    )
