use Rattle.std.proofs.Common.{◌≡◌, true, false, ◌&&◌, List, sym, ap, ◌∙◌, subst}
use Rattle.ygg_value.specs.declared.row.Value.{Value}
use Rattle.ygg_sched.specs.ygg_meaning.Related.{related}
use Rattle.ygg_replay.specs.Passing.{answers_for}
use Rattle.ygg_replay.specs.Sites.{StatesFit, closed_in, low_at, memory_at, vars_at}
use Rattle.ygg_replay.proofs.Agreeing.{agreeing_is, step_fits, ends_fit, relates_to}
use Rattle.ygg_replay.proofs.Asked.{if_ok}
use Rattle.ygg_replay.proofs.site.ReplaySite.agrees.Goals as goal

pub returns-then-not-answers_for : goal.returns-then-not-answers_for
returns-then-not-answers_for c = λ o is.
    let s = c.args.self.now in
    let t = c.args.trial in
    let out = c.in_ok-out.out in
    let no : answers_for t.case.kind t.end.now.answer out.answer ≡ false = sym c.answers_for.ensures ∙ c.if-not-answers_for.true in
    sym (agreeing_is s t c.args.picks.now out.answer out.after.values o is c.requires.steps (c.in_ok-out.ensures o is)
    ∙ ap (λ b. b && relates_to s t c.args.picks.now out.answer out.after.values) no)

pub related-requires-clause-fits : goal.related-requires-clause-fits
related-requires-clause-fits c =
    let s = c.args.self.now in
    let t = c.args.trial in
    let can = c.requires.can in
    let out = c.in_ok-out.out in
    let fits = ends_fit s t.end.now out.after.values
    (step_fits s t out.answer out.after.values c.args.picks.now can.obligation can.is c.requires.steps (c.in_ok-out.ensures can.obligation can.is))
    can.end_fits in
    subst (λ (state : List Value). StatesFit s state t.end.now.memory c.state-2.result.now) (sym c.state.ensures)
    (subst (λ (low : List Value). StatesFit s out.after.values t.end.now.memory low) (sym c.state-2.ensures) fits)

pub returns : goal.returns
returns c =
    let s = c.args.self.now in
    let t = c.args.trial in
    let out = c.in_ok-out.out in
    let yes : answers_for t.case.kind t.end.now.answer out.answer ≡ true = sym c.answers_for.ensures ∙ c.if-not-answers_for.false in
    let says = λ (state low : List Value). related (closed_in s) (vars_at s state) (memory_at s t.end.now.memory) (low_at s low) in
    if_ok _ _ c.related.result c.related.ensures
    (λ holds h o is. h ∙ ap (λ (state : List Value). says state c.state-2.result.now) c.state.ensures
    ∙ ap (λ (low : List Value). says out.after.values low) c.state-2.ensures
    ∙ sym (agreeing_is s t c.args.picks.now out.answer out.after.values o is c.requires.steps (c.in_ok-out.ensures o is)
    ∙ ap (λ b. b && relates_to s t c.args.picks.now out.answer out.after.values) yes))
