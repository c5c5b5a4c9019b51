use Rattle.ygg_shape_words.proofs.Children.{resize_stands}
use Rattle.ygg_shape_nodes.proofs.Moved.{words_stand}
use Rattle.ygg_shape_nodes.proofs.moving.resize_of.Goals as goal

pub width-requires : goal.width-requires
width-requires c = resize_stands c.args.bank.now c.args.at.0 c.in-Resize.first c.in-Resize.a c.requires.bank.ordered c.in-Resize.ensures.there

pub node-requires-in-Pick : goal.node-requires-in-Pick
node-requires-in-Pick c =
    (words_stand c.args.bank.now c.args.at c.in-Pick.test c.in-Pick.yes c.in-Pick.no c.requires.bank.ordered c.in-Pick.ensures.there).0

pub node-requires-in-Pick-2 : goal.node-requires-in-Pick-2
node-requires-in-Pick-2 c =
    (words_stand c.args.bank.now c.args.at c.in-Pick.test c.in-Pick.yes c.in-Pick.no c.requires.bank.ordered c.in-Pick.ensures.there).1
