use Rattle.ygg_shape_words.proofs.Children.{bin_stands}
use Rattle.ygg_shape_words.proofs.deciding.by_nodes.Goals as goal

pub known-requires : goal.known-requires
known-requires c =
    let n = c.in-Bin-Eq-default-default-Bin-Eq-default-default in
    (bin_stands c.args.bank.now c.args.test.0 _ n.x n.k c.requires.bank.ordered n.ensures.there).1

pub known-requires-in-Bin-Eq-default-default-Bin-Eq-default-default : goal.known-requires-in-Bin-Eq-default-default-Bin-Eq-default-default
known-requires-in-Bin-Eq-default-default-Bin-Eq-default-default c =
    let n = c.in-Bin-Eq-default-default-Bin-Eq-default-default in
    (bin_stands c.args.bank.now c.args.own.0 _ n.y n.m c.requires.bank.ordered n.ensures'.there).1

pub by_numbers-requires-clause-x : goal.by_numbers-requires-clause-x
by_numbers-requires-clause-x c =
    let n = c.in-Bin-Eq-default-default-Bin-Eq-default-default in
    (bin_stands c.args.bank.now c.args.test.0 _ n.x n.k c.requires.bank.ordered n.ensures.there).0

pub by_numbers-requires-clause-y : goal.by_numbers-requires-clause-y
by_numbers-requires-clause-y c =
    let n = c.in-Bin-Eq-default-default-Bin-Eq-default-default in
    (bin_stands c.args.bank.now c.args.own.0 _ n.y n.m c.requires.bank.ordered n.ensures'.there).0
