-- Terms that stand in a bank stand in it when it has grown.
use Rattle.ygg_bank.proofs.Widths.{wider}
use Rattle.ygg_bench.proofs.merges.timed.Goals as goal

pub merge_often-requires-clause-test : goal.merge_often-requires-clause-test
merge_often-requires-clause-test g c = wider _ _ _ 1 c.make-2.ensures.grows c.in_ok-test.ensures.width
