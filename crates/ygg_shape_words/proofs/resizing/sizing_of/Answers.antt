use Rattle.ygg_shape_words.proofs.Children.{resize_stands}
use Rattle.ygg_shape_words.proofs.resizing.sizing_of.Goals as goal

pub width-requires : goal.width-requires
width-requires c = resize_stands c.args.bank.now c.args.at.0 c.in-Resize.first c.in-Resize.a c.requires.bank.ordered c.in-Resize.ensures.there
