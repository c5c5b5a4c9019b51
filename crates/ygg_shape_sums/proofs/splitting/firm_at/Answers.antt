use Rattle.ygg_shape_words.specs.ygg_bank_proofs_Widths.{has_width, stands}
use Rattle.ygg_shape_words.specs.ygg_bank.Nodes.{width_at, widths_of}
use Rattle.ygg_shape_words.proofs.Children.{pick_children}
use Rattle.ygg_shape_sums.proofs.splitting.firm_at.Goals as goal

pub is_optional-requires-clause-one : goal.is_optional-requires-clause-one
is_optional-requires-clause-one c =
    let old = c.args.bank.now in
    let a = c.args.part.term in
    let w = width_at (widths_of old) a in
    let p = pick_children old a c.in-Pick.test c.in-Pick.yes c.in-Pick.no w c.requires.bank.ordered c.in-Pick.ensures.there
    (has_width old a c.requires.part) in
    stands old c.in-Pick.yes w p.first

pub is_optional-requires-clause-two : goal.is_optional-requires-clause-two
is_optional-requires-clause-two c =
    let old = c.args.bank.now in
    let a = c.args.part.term in
    let w = width_at (widths_of old) a in
    let p = pick_children old a c.in-Pick.test c.in-Pick.yes c.in-Pick.no w c.requires.bank.ordered c.in-Pick.ensures.there
    (has_width old a c.requires.part) in
    stands old c.in-Pick.no w p.second
