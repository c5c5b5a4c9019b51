use Rattle.std.proofs.Common.{◌≡◌, ℕ, suc, ◌-◌, Some, None, sym, ◌∙◌, subst, arith}
use Rattle.ygg_meaning.specs.Machine.{Picks}
use Rattle.ygg_replay_search.specs.Searching.{IsFirstAfter}
use Rattle.ygg_replay_search.proofs.Searching.{here, if_ok, in_left, then_right}
use Rattle.ygg_replay_search.proofs.search.+first_after.Goals as goal

pub returns-then-branch : goal.returns-then-branch
returns-then-branch g t c =
    let test = g.T.Test.passing c.args.test.now in
    let before = c.args.before.now in
    subst (λ (n : ℕ). IsFirstAfter n test before (Some c.in_ok-from_slice.field-0)) (sym c.if-left-eq0.true)
    (here test before (sym c.in_ok-passes.ensures ∙ c.if-branch.true) c.in_ok-from_slice.field-0 c.in_ok-from_slice.ensures)

pub returns-in-Some : goal.returns-in-Some
returns-in-Some g t c =
    let test = g.T.Test.passing c.args.test.now in
    let before = c.args.before.now in
    let e : suc (c.args.left - 1) ≡ c.args.left = omega (arith, c.if-left-eq0.false) in
    subst (λ (n : ℕ). IsFirstAfter n test before (Some c.in-Some.first)) e
    (in_left test before (c.args.left - 1) c.in-Some.first
    (subst (λ (p : Picks). IsFirstAfter (c.args.left - 1) test p (Some c.in-Some.first)) (c.as_slice.ensures.value ∙ c.in_ok-without.ensures)
    (rw c.in-Some.is at c.in_ok-first.ensures)))

pub returns : goal.returns
returns g t c =
    let test = g.T.Test.passing c.args.test.now in
    let before = c.args.before.now in
    let e : suc (c.args.left - 1) ≡ c.args.left = omega (arith, c.if-left-eq0.false) in
    if_ok _ _ c.first_after-2.result c.first_after-2.ensures
    (λ found is.
    subst (λ (n : ℕ). IsFirstAfter n test before found) e
    (then_right test before (c.args.left - 1)
    (subst (λ (p : Picks). IsFirstAfter (c.args.left - 1) test p None) (c.as_slice.ensures.value ∙ c.in_ok-without.ensures)
    (rw c.in_default.is at c.in_ok-first.ensures)) found
    (subst (λ (p : Picks). IsFirstAfter (c.args.left - 1) test p found) (c.as_slice-2.ensures.value ∙ c.in_ok-chosen.ensures) is)))
