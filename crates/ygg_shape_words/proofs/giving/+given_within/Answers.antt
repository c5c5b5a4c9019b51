use Rattle.std.proofs.Common.{rules, ◌<◌, Some, ap, ◌∙◌, arith}
use Rattle.ygg_bank.proofs.Widths.{wider, width_is, has_width, stands, extends_both}
use Rattle.ygg_bank.specs.Nodes.{width_at, widths_of}
use Rattle.ygg_shape_words.proofs.Each.{each_ok}
use Rattle.ygg_shape_words.proofs.Fit.{can_pick}
use Rattle.ygg_shape_words.proofs.GivenSteps.{if_ok, zero_answer, whole_answer, side_answer, both_answer}
use Rattle.ygg_shape_words.proofs.Givens.{same_stands}
use Rattle.ygg_shape_words.proofs.giving.+given_within.Goals as goal

pub returns-then-depth-eq0-clause-made : goal.returns-then-depth-eq0-clause-made
returns-then-depth-eq0-clause-made g t c =
    zero_answer (g.B.Book.kinds c.args.book.now) c.args.test c.args.value c.args.depth c.args.fuel.now c.args.word c.args.bank.now c.if-depth-eq0.true

pub given_within-requires : goal.given_within-requires
given_within-requires g t c κs within = (
  omega arith,
  (
    search rules,
    (
      c.requires.bank,
      (c.requires.test, same_stands c.args.bank.now c.args.word c.args.bank.now c.in-Side.side c.requires.word c.in-Side.ensures.fits),
    ),
  ),
)

pub given_within-requires-in-Both : goal.given_within-requires-in-Both
given_within-requires-in-Both g t c κs within = (
  omega arith,
  (
    search rules,
    (
      c.requires.bank,
      (c.requires.test, same_stands c.args.bank.now c.args.word c.args.bank.now c.in-Both.yes c.requires.word c.in-Both.ensures.fits.1),
    ),
  ),
)

pub given_within-requires-in-Both-2 : goal.given_within-requires-in-Both-2
given_within-requires-in-Both-2 g t c κs within =
    let a = c.args.bank.now in
    let b = c.given_within-in-Both.new.bank in
    let grow = c.given_within-in-Both.ensures.grows in (
      omega arith,
      (
        search rules,
        (
          c.given_within-in-Both.ensures.bank,
          (
            stands b c.args.test (width_at (widths_of a) c.args.test)
                (wider a b c.args.test (width_at (widths_of a) c.args.test) grow (has_width a c.args.test c.requires.test)),
            same_stands a c.args.word b c.in-Both.no c.requires.word (λ w h. wider a b c.in-Both.no w grow (c.in-Both.ensures.fits.2 w h)),
          ),
        ),
      ),
    )

pub returns-in_err-two-in-Both-clause-inputs : goal.returns-in_err-two-in-Both-clause-inputs
returns-in_err-two-in-Both-clause-inputs g t c = λ next h. c.given_within-in-Both-2.ensures.inputs next (c.given_within-in-Both.ensures.inputs next h)

pub pick-requires-clause-pick : goal.pick-requires-clause-pick
pick-requires-clause-pick g t c =
    let a = c.args.bank.now in
    let b = c.given_within-in-Both.new.bank in
    let n = c.given_within-in-Both-2.new.bank in
    let one = c.given_within-in-Both.ensures.grows in
    let two = c.given_within-in-Both-2.ensures.grows in
    let w = width_at (widths_of a) c.args.word in
    let h = has_width a c.args.word c.requires.word in
    can_pick n c.in-Both.own c.in_ok-one-in-Both.one c.in_ok-two-in-Both.two w
    (wider a n c.in-Both.own 1 (extends_both a b n one two) c.in-Both.ensures.fits.0)
    (wider b n c.in_ok-one-in-Both.one w two (c.in_ok-one-in-Both.ensures.width w (c.in-Both.ensures.fits.1 w h)))
    (c.in_ok-two-in-Both.ensures.width w (wider a b c.in-Both.no w one (c.in-Both.ensures.fits.2 w h)))

pub returns-in-Whole-clause-made : goal.returns-in-Whole-clause-made
returns-in-Whole-clause-made g t c =
    let l : 0 < c.args.depth = omega (arith, c.if-depth-eq0.false) in
    whole_answer (g.B.Book.kinds c.args.book.now) c.args.test c.args.value c.args.depth c.args.fuel.now c.args.word c.args.bank.now l c.in-Whole.ensures.value

pub returns-in-Side-clause-made : goal.returns-in-Side-clause-made
returns-in-Side-clause-made g t c =
    let l : 0 < c.args.depth = omega (arith, c.if-depth-eq0.false) in
    if_ok c.given_within.result c.given_within.ensures.made
    (λ r k. side_answer (g.B.Book.kinds c.args.book.now) c.args.test c.args.value c.args.depth c.args.fuel.now c.saturating_sub.result
    c.given_within.new.fuel c.args.word c.in-Side.side r c.args.bank.now c.given_within.new.bank l c.in-Side.ensures.value c.saturating_sub.ensures k)

pub returns-in_ok-two-in-Both-clause-made : goal.returns-in_ok-two-in-Both-clause-made
returns-in_ok-two-in-Both-clause-made g t c =
    let l : 0 < c.args.depth = omega (arith, c.if-depth-eq0.false) in
    each_ok c.pick.result c.pick.ensures.nodes c.pick.ensures.form
    (λ r p q. both_answer (g.B.Book.kinds c.args.book.now) c.args.test c.args.value c.args.depth c.args.fuel.now c.saturating_sub-in-Both.result
    c.given_within-in-Both.new.fuel c.given_within-in-Both-2.new.fuel c.args.word c.in-Both.own c.in-Both.yes c.in-Both.no c.in_ok-one-in-Both.one
    c.in_ok-two-in-Both.two r c.args.bank.now c.given_within-in-Both.new.bank c.given_within-in-Both-2.new.bank c.pick.new.bank l
    c.in-Both.ensures.value c.saturating_sub-in-Both.ensures c.in_ok-one-in-Both.ensures.made c.in_ok-two-in-Both.ensures.made p q)

pub returns-in_ok-two-in-Both-clause-width : goal.returns-in_ok-two-in-Both-clause-width
returns-in_ok-two-in-Both-clause-width g t c =
    let a = c.args.bank.now in
    let b = c.given_within-in-Both.new.bank in
    let n = c.given_within-in-Both-2.new.bank in
    let one = c.given_within-in-Both.ensures.grows in
    let two = c.given_within-in-Both-2.ensures.grows in
    each_ok c.pick.result c.pick.ensures.nodes c.pick.ensures.width
    (λ r p q w h. q ∙ ap (λ z. Some z) (width_is n c.in_ok-one-in-Both.one w
    (wider b n c.in_ok-one-in-Both.one w two (c.in_ok-one-in-Both.ensures.width w (c.in-Both.ensures.fits.1 w h)))))

pub returns-in_ok-two-in-Both-clause-inputs : goal.returns-in_ok-two-in-Both-clause-inputs
returns-in_ok-two-in-Both-clause-inputs g t c = λ next h. c.pick.ensures.inputs next
    (c.given_within-in-Both-2.ensures.inputs next (c.given_within-in-Both.ensures.inputs next h))
