use Rattle.ygg_shape_words.specs.ygg_bank_proofs_Widths.{has_width, stands}
use Rattle.ygg_shape_words.specs.ygg_bank.Nodes.{width_at, widths_of}
use Rattle.ygg_shape_words.proofs.Children.{bin_stands, pick_children}
use Rattle.ygg_shape_sums.proofs.sharing.sharing_of.Goals as goal

pub node-requires-in-Bin-Add-default-default : goal.node-requires-in-Bin-Add-default-default
node-requires-in-Bin-Add-default-default c =
    let p = bin_stands c.args.bank.now c.args.term.0 c.in-Bin-Add-default-default.op c.in-Bin-Add-default-default.a c.in-Bin-Add-default-default.b c.requires.bank.ordered
    c.in-Bin-Add-default-default.ensures.there in
    p.0

pub node-requires-in-Bin-Add-default-default-2 : goal.node-requires-in-Bin-Add-default-default-2
node-requires-in-Bin-Add-default-default-2 c =
    let p = bin_stands c.args.bank.now c.args.term.0 c.in-Bin-Add-default-default.op c.in-Bin-Add-default-default.a c.in-Bin-Add-default-default.b c.requires.bank.ordered
    c.in-Bin-Add-default-default.ensures.there in
    p.1

pub node-requires-in-Pick : goal.node-requires-in-Pick
node-requires-in-Pick c =
    let old = c.args.bank.now in
    let a = c.args.term in
    let w = width_at (widths_of old) a in
    let p = pick_children old a c.in-Pick.test c.in-Pick.yes c.in-Pick.no w c.requires.bank.ordered c.in-Pick.ensures.there (has_width old a c.requires.term) in
    stands old c.in-Pick.yes w p.first

pub node-requires-in-Pick-2 : goal.node-requires-in-Pick-2
node-requires-in-Pick-2 c =
    let old = c.args.bank.now in
    let a = c.args.term in
    let w = width_at (widths_of old) a in
    let p = pick_children old a c.in-Pick.test c.in-Pick.yes c.in-Pick.no w c.requires.bank.ordered c.in-Pick.ensures.there (has_width old a c.requires.term) in
    stands old c.in-Pick.no w p.second
