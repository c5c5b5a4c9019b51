use Rattle.ygg_shape_sums.proofs.Fit.{part_stands}
use Rattle.ygg_shape_sums.proofs.gathering.first_test.Goals as goal

pub test_at-requires : goal.test_at-requires
test_at-requires c = part_stands c.args.bank.now c.args.parts.now c.loop-part.part-index _ c.requires.parts c.loop-part-test.true
