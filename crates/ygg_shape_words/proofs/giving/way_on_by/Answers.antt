use Rattle.ygg_bank.proofs.Widths.{has_width, stands}
use Rattle.ygg_bank.specs.Nodes.{width_at, widths_of}
use Rattle.ygg_shape_words.proofs.Children.{pick_children}
use Rattle.ygg_shape_words.proofs.giving.way_on_by.Goals as goal

pub decided-requires-clause-own : goal.decided-requires-clause-own
decided-requires-clause-own c =
    let old = c.args.bank.now in
    let p = pick_children old c.args.word c.in-Pick.own c.in-Pick.yes c.in-Pick.no (width_at (widths_of old) c.args.word) c.requires.bank.ordered
    c.in-Pick.ensures.there (has_width old c.args.word c.requires.word) in
    stands old c.in-Pick.own 1 p.test
