use Rattle.std.proofs.lemmas.Result.{IfOk-from_err}
use Rattle.std.proofs.Common.{rules, ◌<◌, Some, true, false, sym, ap, ◌∙◌, subst, arith}
use Rattle.ygg_shape_sums.specs.ygg_bank_proofs_Widths.{wider, width_is, extends_self, extends_both}
use Rattle.ygg_shape_sums.specs.ygg_shape_words_proofs_Fit.{can_pick}
use Rattle.ygg_shape_cells.proofs.Fit.{pairs_wider, sides_fit, without_fit, shared_digit}
use Rattle.ygg_shape.proofs.EquateSteps.{within_zero, within_whole, within_split}
use Rattle.ygg_shape_cells.specs.Pairs.{PairsFit, sides, without}
use Rattle.ygg_shape.proofs.equating.+equal_within.Goals as goal

pub returns-then-depth-eq0-clause-made : goal.returns-then-depth-eq0-clause-made
returns-then-depth-eq0-clause-made g t c =
    within_zero (g.B.Book.kinds c.args.book.now) c.args.depth c.args.pairs.now c.args.bank.now c.one_by_one.new.bank c.in_ok-answer.answer
    c.if-depth-eq0.true c.in_ok-answer.ensures.nodes c.in_ok-answer.ensures.form

pub returns-in_ok-answer-in-None-clause-made : goal.returns-in_ok-answer-in-None-clause-made
returns-in_ok-answer-in-None-clause-made g t c =
    within_whole (g.B.Book.kinds c.args.book.now) c.args.depth c.args.pairs.now c.args.bank.now c.one_by_one-in-None.new.bank c.in_ok-answer-in-None.answer
    (sym c.in-None.is ∙ c.shared.ensures) c.in_ok-answer-in-None.ensures.nodes c.in_ok-answer-in-None.ensures.form

pub equal_within-requires : goal.equal_within-requires
equal_within-requires g t c κs within =
    let bank = c.args.bank.now in (
      omega arith,
      (
        search rules,
        (
          c.requires.bank,
          subst (PairsFit bank) (sym (c.as_slice.ensures.value ∙ c.in_ok-yes_sides-in-Some.ensures))
              (sides_fit bank c.in-Some.test true c.args.pairs.now c.requires.bank.ordered c.requires.pairs),
        ),
      ),
    )

pub equal_within-requires-in-Some : goal.equal_within-requires-in-Some
equal_within-requires-in-Some g t c κs within =
    let bank = c.args.bank.now in
    let next = c.equal_within.new.bank in (
      omega arith,
      (
        search rules,
        (
          c.equal_within.ensures.bank,
          subst (PairsFit next) (sym (c.as_slice-in-Some.ensures.value ∙ c.in_ok-no_sides-in-Some.ensures))
              (pairs_wider bank next (sides bank c.in-Some.test false c.args.pairs.now) c.equal_within.ensures.grows
              (sides_fit bank c.in-Some.test false c.args.pairs.now c.requires.bank.ordered c.requires.pairs)),
        ),
      ),
    )

pub pick-requires-clause-pick : goal.pick-requires-clause-pick
pick-requires-clause-pick g t c =
    let a = c.args.bank.now in
    let b = c.equal_within.new.bank in
    let m = c.equal_within-in-Some.new.bank in
    let test = c.in-Some.test in
    let grows = c.equal_within-in-Some.ensures.grows in
    let digit = shared_digit a c.args.pairs.now test c.requires.bank.ordered c.requires.pairs (sym (sym c.in-Some.is ∙ c.shared.ensures)) in
    can_pick m test c.in_ok-yes-in-Some.yes c.in_ok-no-in-Some.no 1 (wider a m test 1 (extends_both a b m c.equal_within.ensures.grows grows) digit)
    (wider b m c.in_ok-yes-in-Some.yes 1 grows c.in_ok-yes-in-Some.ensures.width) c.in_ok-no-in-Some.ensures.width

pub equal_within-requires-in-Some-2 : goal.equal_within-requires-in-Some-2
equal_within-requires-in-Some-2 g t c κs within =
    let a = c.args.bank.now in
    let b = c.equal_within.new.bank in
    let m = c.equal_within-in-Some.new.bank in
    let n = c.pick.new.bank in
    let grows = extends_both a m n (extends_both a b m c.equal_within.ensures.grows c.equal_within-in-Some.ensures.grows) c.pick.ensures.grows in (
      omega arith,
      (
        search rules,
        (
          c.pick.ensures.bank,
          subst (PairsFit n) (sym (c.as_slice-in-Some-2.ensures.value ∙ c.in_ok-others-in-Some.ensures))
              (pairs_wider a n (without a c.in-Some.test c.args.pairs.now) grows (without_fit a c.in-Some.test c.args.pairs.now c.requires.pairs)),
        ),
      ),
    )

pub both-requires-clause-one : goal.both-requires-clause-one
both-requires-clause-one g t c =
    let b = c.equal_within.new.bank in
    let m = c.equal_within-in-Some.new.bank in
    let yes_has = wider b m c.in_ok-yes-in-Some.yes 1 c.equal_within-in-Some.ensures.grows c.in_ok-yes-in-Some.ensures.width in
    wider c.pick.new.bank c.equal_within-in-Some-2.new.bank c.in_ok-split-in-Some.split 1 c.equal_within-in-Some-2.ensures.grows
    (c.in_ok-split-in-Some.ensures.width ∙ ap (λ z. Some z) (width_is m c.in_ok-yes-in-Some.yes 1 yes_has))

pub returns-in_ok-answer-in-Some-clause-made : goal.returns-in_ok-answer-in-Some-clause-made
returns-in_ok-answer-in-Some-clause-made g t c =
    let d : 0 < c.args.depth = omega (arith, c.if-depth-eq0.false) in
    within_split (g.B.Book.kinds c.args.book.now) c.args.depth c.args.pairs.now c.as_slice.result.now c.as_slice-in-Some.result.now
    c.as_slice-in-Some-2.result.now c.in-Some.test c.in_ok-yes-in-Some.yes c.in_ok-no-in-Some.no c.in_ok-split-in-Some.split c.in_ok-rest-in-Some.rest
    c.in_ok-answer-in-Some.answer c.args.bank.now c.equal_within.new.bank c.equal_within-in-Some.new.bank c.pick.new.bank
    c.equal_within-in-Some-2.new.bank c.both.new.bank d (sym c.in-Some.is ∙ c.shared.ensures)
    (c.as_slice.ensures.value ∙ c.in_ok-yes_sides-in-Some.ensures) (c.as_slice-in-Some.ensures.value ∙ c.in_ok-no_sides-in-Some.ensures)
    (c.as_slice-in-Some-2.ensures.value ∙ c.in_ok-others-in-Some.ensures) c.in_ok-yes-in-Some.ensures.made c.in_ok-no-in-Some.ensures.made
    (record { nodes = c.in_ok-split-in-Some.ensures.nodes; value = c.in_ok-split-in-Some.ensures.form }) c.in_ok-rest-in-Some.ensures.made
    (record { nodes = c.in_ok-answer-in-Some.ensures.nodes; value = c.in_ok-answer-in-Some.ensures.form })

pub returns-in_err-no-in-Some-clause-grows : goal.returns-in_err-no-in-Some-clause-grows
returns-in_err-no-in-Some-clause-grows g t c = extends_both _ _ _ c.equal_within.ensures.grows c.equal_within-in-Some.ensures.grows

pub returns-in_err-split-in-Some-clause-grows : goal.returns-in_err-split-in-Some-clause-grows
returns-in_err-split-in-Some-clause-grows g t c =
    extends_both _ _ _ (extends_both _ _ _ c.equal_within.ensures.grows c.equal_within-in-Some.ensures.grows) c.pick.ensures.grows

pub returns-in_err-rest-in-Some-clause-grows : goal.returns-in_err-rest-in-Some-clause-grows
returns-in_err-rest-in-Some-clause-grows g t c =
    extends_both _ _ _ (extends_both _ _ _ (extends_both _ _ _ c.equal_within.ensures.grows c.equal_within-in-Some.ensures.grows) c.pick.ensures.grows)
    c.equal_within-in-Some-2.ensures.grows

pub shared-requires : goal.shared-requires
shared-requires g t c = c.requires.pairs

pub sides-requires : goal.sides-requires
sides-requires g t c = c.requires.pairs

pub sides-requires-in-Some : goal.sides-requires-in-Some
sides-requires-in-Some g t c = c.requires.pairs

pub without-requires : goal.without-requires
without-requires g t c = c.requires.pairs

pub returns-in_err-answer-in-Some-clause-grows : goal.returns-in_err-answer-in-Some-clause-grows
returns-in_err-answer-in-Some-clause-grows g t c =
    extends_both _ _ _ (extends_both _ _ _ (extends_both _ _ _ (extends_both _ _ _ c.equal_within.ensures.grows c.equal_within-in-Some.ensures.grows)
    c.pick.ensures.grows) c.equal_within-in-Some-2.ensures.grows) c.both.ensures.grows

pub returns-in_ok-answer-in-Some-clause-grows : goal.returns-in_ok-answer-in-Some-clause-grows
returns-in_ok-answer-in-Some-clause-grows g t c =
    extends_both _ _ _ (extends_both _ _ _ (extends_both _ _ _ (extends_both _ _ _ c.equal_within.ensures.grows c.equal_within-in-Some.ensures.grows)
    c.pick.ensures.grows) c.equal_within-in-Some-2.ensures.grows) c.both.ensures.grows

pub returns-in_err-answer-clause-made : goal.returns-in_err-answer-clause-made
returns-in_err-answer-clause-made g t c = IfOk-from_err c.from_residual.result _ c.from_residual.ensures.0

pub returns-in_err-answer-clause-width : goal.returns-in_err-answer-clause-width
returns-in_err-answer-clause-width g t c = IfOk-from_err c.from_residual.result _ c.from_residual.ensures.0

pub returns-in_err-answer-clause-grows : goal.returns-in_err-answer-clause-grows
returns-in_err-answer-clause-grows g t c = c.one_by_one.ensures.grows

pub returns-in_err-answer-clause-bank : goal.returns-in_err-answer-clause-bank
returns-in_err-answer-clause-bank g t c = c.one_by_one.ensures.bank

pub returns-in_err-answer-in-None-clause-made : goal.returns-in_err-answer-in-None-clause-made
returns-in_err-answer-in-None-clause-made g t c = IfOk-from_err c.from_residual-in_err-answer-in-None.result _ c.from_residual-in_err-answer-in-None.ensures.0

pub returns-in_err-answer-in-None-clause-width : goal.returns-in_err-answer-in-None-clause-width
returns-in_err-answer-in-None-clause-width g t c = IfOk-from_err c.from_residual-in_err-answer-in-None.result _ c.from_residual-in_err-answer-in-None.ensures.0

pub returns-in_err-answer-in-None-clause-grows : goal.returns-in_err-answer-in-None-clause-grows
returns-in_err-answer-in-None-clause-grows g t c = c.one_by_one-in-None.ensures.grows

pub returns-in_err-answer-in-None-clause-bank : goal.returns-in_err-answer-in-None-clause-bank
returns-in_err-answer-in-None-clause-bank g t c = c.one_by_one-in-None.ensures.bank

pub returns-in_err-yes_sides-in-Some-clause-made : goal.returns-in_err-yes_sides-in-Some-clause-made
returns-in_err-yes_sides-in-Some-clause-made g t c =
    IfOk-from_err c.from_residual-in_err-yes_sides-in-Some.result _ c.from_residual-in_err-yes_sides-in-Some.ensures.0

pub returns-in_err-yes_sides-in-Some-clause-width : goal.returns-in_err-yes_sides-in-Some-clause-width
returns-in_err-yes_sides-in-Some-clause-width g t c =
    IfOk-from_err c.from_residual-in_err-yes_sides-in-Some.result _ c.from_residual-in_err-yes_sides-in-Some.ensures.0

pub returns-in_err-yes_sides-in-Some-clause-grows : goal.returns-in_err-yes_sides-in-Some-clause-grows
returns-in_err-yes_sides-in-Some-clause-grows g t c = extends_self c.args.bank.now

pub returns-in_err-yes_sides-in-Some-clause-bank : goal.returns-in_err-yes_sides-in-Some-clause-bank
returns-in_err-yes_sides-in-Some-clause-bank g t c = c.requires.bank

pub returns-in_err-no_sides-in-Some-clause-made : goal.returns-in_err-no_sides-in-Some-clause-made
returns-in_err-no_sides-in-Some-clause-made g t c =
    IfOk-from_err c.from_residual-in_err-no_sides-in-Some.result _ c.from_residual-in_err-no_sides-in-Some.ensures.0

pub returns-in_err-no_sides-in-Some-clause-width : goal.returns-in_err-no_sides-in-Some-clause-width
returns-in_err-no_sides-in-Some-clause-width g t c =
    IfOk-from_err c.from_residual-in_err-no_sides-in-Some.result _ c.from_residual-in_err-no_sides-in-Some.ensures.0

pub returns-in_err-no_sides-in-Some-clause-grows : goal.returns-in_err-no_sides-in-Some-clause-grows
returns-in_err-no_sides-in-Some-clause-grows g t c = extends_self c.args.bank.now

pub returns-in_err-no_sides-in-Some-clause-bank : goal.returns-in_err-no_sides-in-Some-clause-bank
returns-in_err-no_sides-in-Some-clause-bank g t c = c.requires.bank

pub returns-in_err-others-in-Some-clause-made : goal.returns-in_err-others-in-Some-clause-made
returns-in_err-others-in-Some-clause-made g t c = IfOk-from_err c.from_residual-in_err-others-in-Some.result _ c.from_residual-in_err-others-in-Some.ensures.0

pub returns-in_err-others-in-Some-clause-width : goal.returns-in_err-others-in-Some-clause-width
returns-in_err-others-in-Some-clause-width g t c = IfOk-from_err c.from_residual-in_err-others-in-Some.result _ c.from_residual-in_err-others-in-Some.ensures.0

pub returns-in_err-others-in-Some-clause-grows : goal.returns-in_err-others-in-Some-clause-grows
returns-in_err-others-in-Some-clause-grows g t c = extends_self c.args.bank.now

pub returns-in_err-others-in-Some-clause-bank : goal.returns-in_err-others-in-Some-clause-bank
returns-in_err-others-in-Some-clause-bank g t c = c.requires.bank

pub returns-in_err-yes-in-Some-clause-made : goal.returns-in_err-yes-in-Some-clause-made
returns-in_err-yes-in-Some-clause-made g t c = IfOk-from_err c.from_residual-in_err-yes-in-Some.result _ c.from_residual-in_err-yes-in-Some.ensures.0

pub returns-in_err-yes-in-Some-clause-width : goal.returns-in_err-yes-in-Some-clause-width
returns-in_err-yes-in-Some-clause-width g t c = IfOk-from_err c.from_residual-in_err-yes-in-Some.result _ c.from_residual-in_err-yes-in-Some.ensures.0

pub returns-in_err-yes-in-Some-clause-grows : goal.returns-in_err-yes-in-Some-clause-grows
returns-in_err-yes-in-Some-clause-grows g t c = c.equal_within.ensures.grows

pub returns-in_err-yes-in-Some-clause-bank : goal.returns-in_err-yes-in-Some-clause-bank
returns-in_err-yes-in-Some-clause-bank g t c = c.equal_within.ensures.bank

pub returns-in_err-no-in-Some-clause-made : goal.returns-in_err-no-in-Some-clause-made
returns-in_err-no-in-Some-clause-made g t c = IfOk-from_err c.from_residual-in_err-no-in-Some.result _ c.from_residual-in_err-no-in-Some.ensures.0

pub returns-in_err-no-in-Some-clause-width : goal.returns-in_err-no-in-Some-clause-width
returns-in_err-no-in-Some-clause-width g t c = IfOk-from_err c.from_residual-in_err-no-in-Some.result _ c.from_residual-in_err-no-in-Some.ensures.0

pub returns-in_err-no-in-Some-clause-bank : goal.returns-in_err-no-in-Some-clause-bank
returns-in_err-no-in-Some-clause-bank g t c = c.equal_within-in-Some.ensures.bank

pub returns-in_err-split-in-Some-clause-made : goal.returns-in_err-split-in-Some-clause-made
returns-in_err-split-in-Some-clause-made g t c = IfOk-from_err c.from_residual-in_err-split-in-Some.result _ c.from_residual-in_err-split-in-Some.ensures.0

pub returns-in_err-split-in-Some-clause-width : goal.returns-in_err-split-in-Some-clause-width
returns-in_err-split-in-Some-clause-width g t c = IfOk-from_err c.from_residual-in_err-split-in-Some.result _ c.from_residual-in_err-split-in-Some.ensures.0

pub returns-in_err-split-in-Some-clause-bank : goal.returns-in_err-split-in-Some-clause-bank
returns-in_err-split-in-Some-clause-bank g t c = c.pick.ensures.bank

pub returns-in_err-rest-in-Some-clause-made : goal.returns-in_err-rest-in-Some-clause-made
returns-in_err-rest-in-Some-clause-made g t c = IfOk-from_err c.from_residual-in_err-rest-in-Some.result _ c.from_residual-in_err-rest-in-Some.ensures.0

pub returns-in_err-rest-in-Some-clause-width : goal.returns-in_err-rest-in-Some-clause-width
returns-in_err-rest-in-Some-clause-width g t c = IfOk-from_err c.from_residual-in_err-rest-in-Some.result _ c.from_residual-in_err-rest-in-Some.ensures.0

pub returns-in_err-rest-in-Some-clause-bank : goal.returns-in_err-rest-in-Some-clause-bank
returns-in_err-rest-in-Some-clause-bank g t c = c.equal_within-in-Some-2.ensures.bank

pub returns-in_err-answer-in-Some-clause-made : goal.returns-in_err-answer-in-Some-clause-made
returns-in_err-answer-in-Some-clause-made g t c = IfOk-from_err c.from_residual-in_err-answer-in-Some.result _ c.from_residual-in_err-answer-in-Some.ensures.0

pub returns-in_err-answer-in-Some-clause-width : goal.returns-in_err-answer-in-Some-clause-width
returns-in_err-answer-in-Some-clause-width g t c = IfOk-from_err c.from_residual-in_err-answer-in-Some.result _ c.from_residual-in_err-answer-in-Some.ensures.0

pub returns-in_err-answer-in-Some-clause-bank : goal.returns-in_err-answer-in-Some-clause-bank
returns-in_err-answer-in-Some-clause-bank g t c = c.both.ensures.bank

pub returns-then-depth-eq0-clause-width : goal.returns-then-depth-eq0-clause-width
returns-then-depth-eq0-clause-width g t c = c.in_ok-answer.ensures.width

pub returns-then-depth-eq0-clause-grows : goal.returns-then-depth-eq0-clause-grows
returns-then-depth-eq0-clause-grows g t c = c.one_by_one.ensures.grows

pub returns-then-depth-eq0-clause-bank : goal.returns-then-depth-eq0-clause-bank
returns-then-depth-eq0-clause-bank g t c = c.one_by_one.ensures.bank

pub returns-in_ok-answer-in-None-clause-width : goal.returns-in_ok-answer-in-None-clause-width
returns-in_ok-answer-in-None-clause-width g t c = c.in_ok-answer-in-None.ensures.width

pub returns-in_ok-answer-in-None-clause-grows : goal.returns-in_ok-answer-in-None-clause-grows
returns-in_ok-answer-in-None-clause-grows g t c = c.one_by_one-in-None.ensures.grows

pub returns-in_ok-answer-in-None-clause-bank : goal.returns-in_ok-answer-in-None-clause-bank
returns-in_ok-answer-in-None-clause-bank g t c = c.one_by_one-in-None.ensures.bank

pub returns-in_ok-answer-in-Some-clause-width : goal.returns-in_ok-answer-in-Some-clause-width
returns-in_ok-answer-in-Some-clause-width g t c = c.in_ok-answer-in-Some.ensures.width

pub returns-in_ok-answer-in-Some-clause-bank : goal.returns-in_ok-answer-in-Some-clause-bank
returns-in_ok-answer-in-Some-clause-bank g t c = c.both.ensures.bank

pub one_by_one-requires-clause-bank : goal.one_by_one-requires-clause-bank
one_by_one-requires-clause-bank g t c = c.requires.bank

pub one_by_one-requires-clause-pairs : goal.one_by_one-requires-clause-pairs
one_by_one-requires-clause-pairs g t c = c.requires.pairs

pub one_by_one-requires-in-None-clause-bank : goal.one_by_one-requires-in-None-clause-bank
one_by_one-requires-in-None-clause-bank g t c = c.requires.bank

pub one_by_one-requires-in-None-clause-pairs : goal.one_by_one-requires-in-None-clause-pairs
one_by_one-requires-in-None-clause-pairs g t c = c.requires.pairs

pub pick-requires-clause-bank : goal.pick-requires-clause-bank
pick-requires-clause-bank g t c = c.equal_within-in-Some.ensures.bank

pub both-requires-clause-two : goal.both-requires-clause-two
both-requires-clause-two g t c = c.in_ok-rest-in-Some.ensures.width
