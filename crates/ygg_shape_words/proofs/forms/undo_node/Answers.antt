use Rattle.std.proofs.Common.{sym}
use Rattle.ygg_bank.proofs.Widths.{stands}
use Rattle.ygg_shape_words.proofs.Children.{bin_stands, resize_stands}
use Rattle.ygg_shape_words.proofs.Undone.{constant_fits}
use Rattle.ygg_shape_words.proofs.forms.undo_node.Goals as goal

pub node-requires : goal.node-requires
node-requires c = stands c.args.bank.now c.args.at c.args.word.width c.requires.at

pub known-requires : goal.known-requires
known-requires c = (bin_stands c.args.bank.now c.args.at.0 c.in-Bin.op c.in-Bin.a c.in-Bin.b c.requires.bank.ordered c.in-Bin.ensures.there).0

pub known-requires-in-Bin : goal.known-requires-in-Bin
known-requires-in-Bin c = (bin_stands c.args.bank.now c.args.at.0 c.in-Bin.op c.in-Bin.a c.in-Bin.b c.requires.bank.ordered c.in-Bin.ensures.there).1

pub undo_bin-requires-clause-one : goal.undo_bin-requires-clause-one
undo_bin-requires-clause-one c =
    constant_fits c.args.bank.now c.args.at c.in-Bin.a c.in-Bin.b c.in-Bin.a c.in-Bin.op c.args.word c.known.result c.requires.bank.ordered
    c.in-Bin.ensures.there c.requires.at (sym c.known.ensures) (λ w h. h.0)

pub undo_bin-requires-clause-two : goal.undo_bin-requires-clause-two
undo_bin-requires-clause-two c =
    constant_fits c.args.bank.now c.args.at c.in-Bin.a c.in-Bin.b c.in-Bin.b c.in-Bin.op c.args.word c.known-in-Bin.result c.requires.bank.ordered
    c.in-Bin.ensures.there c.requires.at (sym c.known-in-Bin.ensures) (λ w h. h.1)

pub width-requires : goal.width-requires
width-requires c = resize_stands c.args.bank.now c.args.at.0 c.in-Resize.width c.in-Resize.a c.requires.bank.ordered c.in-Resize.ensures.there

pub undo_bin-requires-clause-a : goal.undo_bin-requires-clause-a
undo_bin-requires-clause-a c = (bin_stands c.args.bank.now c.args.at.0 c.in-Bin.op c.in-Bin.a c.in-Bin.b c.requires.bank.ordered c.in-Bin.ensures.there).0

pub undo_bin-requires-clause-b : goal.undo_bin-requires-clause-b
undo_bin-requires-clause-b c = (bin_stands c.args.bank.now c.args.at.0 c.in-Bin.op c.in-Bin.a c.in-Bin.b c.requires.bank.ordered c.in-Bin.ensures.there).1
