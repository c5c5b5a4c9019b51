use Rattle.std.proofs.Common.{◌<◌, ◌^◌, refl, sym, rules}
use Rattle.ygg_lex.proofs.Numbers.{leading, one_digit, too_great, all_digits}
use Rattle.ygg_lex.proofs.recognize.number_of.Goals as goal

pub returns-then-has_leading_zero : goal.returns-then-has_leading_zero
returns-then-has_leading_zero c = leading c.args.digits.now c.if-has_leading_zero.ensures

pub loop-digit-preserved : goal.loop-digit-preserved
loop-digit-preserved c =
    let small : c.in-Some.longer < 2 ^ 64 = search rules in (
      small,
      one_digit c.args.digits.now c.loop-digit.digit-index c.loop-digit.number c.in-Some.longer c.loop-digit-test.true c.loop-digit.invariant.1
          c.in-Some.ensures.some,
    )

pub returns-in-None : goal.returns-in-None
returns-in-None c =
    sym (too_great c.args.digits.now c.loop-digit.digit-index c.loop-digit.number c.loop-digit-test.true (sym c.if-has_leading_zero.ensures)
    c.loop-digit.invariant.1 (c.in-None.ensures.none refl))

pub returns : goal.returns
returns c =
    sym (all_digits c.args.digits.now c.loop-digit.digit-index c.loop-digit.number c.loop-digit-test.false (sym c.if-has_leading_zero.ensures)
    c.loop-digit.invariant.0 c.loop-digit.invariant.1)
