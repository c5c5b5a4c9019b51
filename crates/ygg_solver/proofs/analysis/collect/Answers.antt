use Rattle.std.proofs.Common.{sym, subst, ◌∙◌, ⊎_elim, Contains, ◌++◌, ◌∷◌, []}
use Rattle.std.proofs.lemmas.Bool.{false≢true}
use Rattle.std.proofs.lemmas.List.Elements.{Contains-push, Contains-push_cases, Contains-append_left}
use Rattle.ygg_cnf_set.specs.LiteralSet.{InSet}
use Rattle.ygg_solver.proofs.LearnLemmas.{here_or_before}
use Rattle.ygg_solver.proofs.analysis.collect.Goals.{then-has_seen+in_ok-push, else-has_seen}
use Rattle.ygg_solver.proofs.analysis.collect.Goals as goal

pub loop-at-preserved : goal.loop-at-preserved
loop-at-preserved c = elim c.if-has_seen.branch [
  | then-has_seen+in_ok-push w ↦ rw (w.clause-is, w.in_ok-push.ensures.ok) (record {
    is_seen = λ y d. ⊎_elim (c.loop-at.invariant.is_seen y)
        (λ e. subst (InSet c.args.seen.now) e (c.has_seen.ensures.0 w.if-has_seen.true)) (Contains-push_cases c.loop-at.clause c.complement-lit.result y d);
    all = λ y m f. ⊎_elim
        (λ e. subst (Contains (c.loop-at.clause ++ c.complement-lit.result ∷ [])) (c.complement-lit.ensures ∙ sym e)
        (Contains-push c.loop-at.clause c.complement-lit.result))
        (λ g. Contains-append_left c.loop-at.clause (c.complement-lit.result ∷ []) y (c.loop-at.invariant.all y m g))
        (here_or_before c.args.trail.now c.loop-at.at c.entry_at.result y c.entry_at.ensures f);
  })
  | else-has_seen w ↦ rw w.clause-is (record {
    is_seen = c.loop-at.invariant.is_seen;
    all = λ y m f. ⊎_elim
        (λ e. absurd (false≢true (sym w.if-has_seen.false ∙ c.has_seen.ensures.1 (subst (InSet c.args.seen.now) (e ∙ sym c.complement-lit.ensures) m))))
        (c.loop-at.invariant.all y m)
        (here_or_before c.args.trail.now c.loop-at.at c.entry_at.result y c.entry_at.ensures f);
  })
]
