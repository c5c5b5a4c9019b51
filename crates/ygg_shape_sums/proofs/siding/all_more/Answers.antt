use Rattle.std.proofs.Common.{refl}
use Rattle.ygg_shape_words.specs.ygg_bank_proofs_Widths.{wider, extends_both}
use Rattle.ygg_shape_sums.proofs.Steps.{all_more_goes}
use Rattle.ygg_shape_sums.proofs.siding.all_more.Goals as goal

pub more-requires-clause-term : goal.more-requires-clause-term
more-requires-clause-term g c =
    wider c.args.bank.now c.loop-part.bank _ c.args.width c.loop-part.invariant.grows (c.requires.parts c.loop-part.part-index _ c.loop-part-test.true)

pub loop-part-preserved : goal.loop-part-preserved
loop-part-preserved g c =
    record {
      went = all_more_goes (g.B.Book.kinds c.args.book.now) c.args.width c.args.second c.args.parts.now c.args.so_far c.args.bank.now c.loop-part.part-index
          c.loop-part.all c.loop-part.bank _ _ c.share-times.result c.in_ok-all.all c.more.new.bank c.loop-part-test.true refl c.share-times.ensures.value
          c.in_ok-all.ensures.nodes c.in_ok-all.ensures.form c.loop-part.invariant.went;
      grows = extends_both c.args.bank.now c.loop-part.bank c.more.new.bank c.loop-part.invariant.grows c.more.ensures.grows;
      wide = c.in_ok-all.ensures.width;
      bank = c.more.ensures.bank;
    }

pub returns-in_err-all-clause-grows : goal.returns-in_err-all-clause-grows
returns-in_err-all-clause-grows g c =
    extends_both c.args.bank.now c.loop-part.bank c.more.new.bank c.loop-part.invariant.grows c.more.ensures.grows
