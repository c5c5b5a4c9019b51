use Rattle.std.proofs.Common.{refl}
use Rattle.ygg_shape_words.specs.ygg_bank_proofs_Widths.{wider, extends_both}
use Rattle.ygg_shape_sums.proofs.Steps.{times_all_goes}
use Rattle.ygg_shape_sums.proofs.remaining.times_all.Goals as goal

pub product-requires-clause-two : goal.product-requires-clause-two
product-requires-clause-two g c =
    wider c.args.bank.now c.loop-factor.bank _ c.args.width c.loop-factor.invariant.grows
    (c.requires.factors c.loop-factor.factor-index _ c.loop-factor-test.true)

pub loop-factor-preserved : goal.loop-factor-preserved
loop-factor-preserved g c =
    record {
      went = times_all_goes (g.B.Book.kinds c.args.book.now) c.args.factors.now c.args.first c.args.bank.now c.loop-factor.factor-index
          c.loop-factor.all c.loop-factor.bank _ _ c.in_ok-all.all c.product.new.bank c.loop-factor-test.true refl
          c.in_ok-all.ensures.nodes c.in_ok-all.ensures.form c.loop-factor.invariant.went;
      grows = extends_both c.args.bank.now c.loop-factor.bank c.product.new.bank c.loop-factor.invariant.grows c.product.ensures.grows;
      wide = c.in_ok-all.ensures.width;
      bank = c.product.ensures.bank;
    }

pub returns-in_err-all-clause-grows : goal.returns-in_err-all-clause-grows
returns-in_err-all-clause-grows g c =
    extends_both c.args.bank.now c.loop-factor.bank c.product.new.bank c.loop-factor.invariant.grows c.product.ensures.grows
