use Rattle.ygg_shape_words.specs.ygg_bank_proofs_Widths.{stands}
use Rattle.ygg_shape_sums.proofs.cancelling.cancels.Goals as goal

pub width-requires : goal.width-requires
width-requires c = let w = c.requires.words in stands c.args.bank.now c.args.one w.width w.one_has
