use Rattle.ygg_shape_cells.proofs.Fit.{one_stands, two_stands}
use Rattle.ygg_shape_cells.proofs.pairs.has_test.Goals as goal

pub is_pick_on-requires : goal.is_pick_on-requires
is_pick_on-requires c = one_stands c.args.bank.now c.args.pair.one c.args.pair.two c.requires

pub is_pick_on-requires-else-is_pick_on : goal.is_pick_on-requires-else-is_pick_on
is_pick_on-requires-else-is_pick_on c = two_stands c.args.bank.now c.args.pair.one c.args.pair.two c.requires
