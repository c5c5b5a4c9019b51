use Rattle.ygg_shape_cells.proofs.Fit.{one_stands, two_stands}
use Rattle.ygg_shape.proofs.joins.put_pair.Goals as goal

pub join_at-requires : goal.join_at-requires
join_at-requires c = one_stands c.args.bank.now c.args.pair.one c.args.pair.two c.requires

pub join_at-requires-2 : goal.join_at-requires-2
join_at-requires-2 c = two_stands c.args.bank.now c.args.pair.one c.args.pair.two c.requires
