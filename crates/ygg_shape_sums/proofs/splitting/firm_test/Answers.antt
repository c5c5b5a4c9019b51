use Rattle.ygg_shape_sums.proofs.Fit.{part_stands}
use Rattle.ygg_shape_sums.proofs.splitting.firm_test.Goals as goal

pub firm_at-requires-clause-part : goal.firm_at-requires-clause-part
firm_at-requires-clause-part c = part_stands c.args.bank.now c.args.parts.now c.loop-part.part-index _ c.requires.parts c.loop-part-test.true
