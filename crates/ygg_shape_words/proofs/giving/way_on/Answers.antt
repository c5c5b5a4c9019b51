use Rattle.std.proofs.Common.{sym, subst}
use Rattle.ygg_bank.proofs.Widths.{has_width}
use Rattle.ygg_bank.specs.Nodes.{width_at, widths_of}
use Rattle.ygg_shape_words.proofs.Givens.{way_fits}
use Rattle.ygg_shape_words.specs.Giving.{FurtherFits}
use Rattle.ygg_shape_words.proofs.giving.way_on.Goals as goal

pub returns-clause-fits : goal.returns-clause-fits
returns-clause-fits c =
    let old = c.args.bank.now in
    subst (FurtherFits old c.args.word) (sym c.way_on_by.ensures)
    (way_fits old c.args.test c.args.word c.args.value c.args.fuel (width_at (widths_of old) c.args.word) c.requires.bank.ordered
    (has_width old c.args.word c.requires.word))
