use Rattle.ygg_shape_words.proofs.Children.{bin_stands}
use Rattle.ygg_shape_sums.proofs.reading.excluded.Goals as goal

pub known-requires : goal.known-requires
known-requires c =
    (bin_stands c.args.bank.now c.args.holds.0 _ c.in-Bin-Eq-default-default-Bin-Eq-default-default.x c.in-Bin-Eq-default-default-Bin-Eq-default-default.k
    c.requires.bank.ordered c.in-Bin-Eq-default-default-Bin-Eq-default-default.ensures.there).1

pub known-requires-then-x-y : goal.known-requires-then-x-y
known-requires-then-x-y c =
    (bin_stands c.args.bank.now c.args.test.0 _ c.in-Bin-Eq-default-default-Bin-Eq-default-default.y c.in-Bin-Eq-default-default-Bin-Eq-default-default.m
    c.requires.bank.ordered c.in-Bin-Eq-default-default-Bin-Eq-default-default.ensures'.there).1
