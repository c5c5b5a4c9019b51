use Rattle.std.proofs.Common.{◌≡◌, sym, ◌∙◌, subst}
use Rattle.ygg_shape_words.specs.ygg_bank_proofs_Widths.{stands, width_is}
use Rattle.ygg_shape_words.specs.ygg_bank.Nodes.{HasWidth}
use Rattle.ygg_shape_sums.proofs.Equates.{difference_fits}
use Rattle.ygg_shape_sums.specs.Parts.{PartsFit, Sum}
use Rattle.ygg_shape_sums.proofs.equating.sums.Goals as goal

pub width-width-requires : goal.width-width-requires
width-width-requires g c = let w = c.requires.words in stands c.args.bank.now c.args.one w.width w.one_has
