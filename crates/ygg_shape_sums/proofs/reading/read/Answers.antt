use Rattle.ygg_shape_words.proofs.Children.{bin_stands}
use Rattle.ygg_shape_sums.proofs.Fit.{test_stands}
use Rattle.ygg_shape_sums.proofs.reading.read.Goals as goal

pub known-requires : goal.known-requires
known-requires c = (bin_stands c.args.bank.now c.args.term.0 c.in-Bin.op c.in-Bin.a c.in-Bin.b c.requires.bank.ordered c.in-Bin.ensures.there).0

pub known-requires-in-Bin : goal.known-requires-in-Bin
known-requires-in-Bin c = (bin_stands c.args.bank.now c.args.term.0 c.in-Bin.op c.in-Bin.a c.in-Bin.b c.requires.bank.ordered c.in-Bin.ensures.there).1

pub decided-requires-clause-test : goal.decided-requires-clause-test
decided-requires-clause-test c =
    test_stands c.args.bank.now c.args.term c.in-Pick.test c.in-Pick.yes c.in-Pick.no c.requires.bank.ordered c.requires.term c.in-Pick.ensures.there
