use Rattle.std.proofs.Common.{sym, ◌∙◌, subst}
use Rattle.ygg_shape_cells.proofs.of_ygg_bank.Widths.{stands}
use Rattle.ygg_shape_cells.proofs.of_ygg_shape_words.Children.{pick_children}
use Rattle.ygg_shape_cells.specs.Pairs.{PairsFit}
use Rattle.ygg_shape.proofs.Joining.{side_fit}
use Rattle.ygg_shape.proofs.joins.put_joins.Goals as goal

pub node-requires : goal.node-requires
node-requires c = stands c.args.bank.now c.args.conjunct 1 c.requires.conjunct

pub partners_of-requires-clause-stands : goal.partners_of-requires-clause-stands
partners_of-requires-clause-stands c =
    let p = c.in-Pick in
    let k = pick_children c.args.bank.now c.args.conjunct p.test p.yes p.no 1 c.requires.bank.ordered p.ensures.there c.requires.conjunct in
    stands c.args.bank.now p.no 1 k.second

pub equations_of-requires-clause-stands : goal.equations_of-requires-clause-stands
equations_of-requires-clause-stands c =
    let p = c.in-Pick in
    let k = pick_children c.args.bank.now c.args.conjunct p.test p.yes p.no 1 c.requires.bank.ordered p.ensures.there c.requires.conjunct in
    stands c.args.bank.now p.yes 1 k.first

pub put_pairs-requires : goal.put_pairs-requires
put_pairs-requires c =
    let p = c.in-Pick in
    let k = pick_children c.args.bank.now c.args.conjunct p.test p.yes p.no 1 c.requires.bank.ordered p.ensures.there c.requires.conjunct in
    subst (PairsFit c.args.bank.now) (sym (c.as_slice.ensures ∙ c.in_ok-pairs-in-Pick.ensures))
    (side_fit c.args.bank.now c.args.one c.args.zero c.requires.bank.ordered c.requires.one c.requires.zero p.yes k.first)
