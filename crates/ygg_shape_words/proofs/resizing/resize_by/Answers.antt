use Rattle.std.proofs.Common.{sym, subst}
use Rattle.ygg_shape_words.proofs.Sizes.{sizing_fits}
use Rattle.ygg_shape_words.specs.Sizing.{SizingFits}
use Rattle.ygg_shape_words.proofs.resizing.resize_by.Goals as goal

pub make-requires : goal.make-requires
make-requires g c = (
  subst (SizingFits c.args.bank.now) (sym c.in-Through.ensures) (sizing_fits c.args.bank.now c.args.term c.args.width c.requires.bank.ordered),
  c.requires.width,
)
