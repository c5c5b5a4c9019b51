use Rattle.ygg_shape_cells.proofs.Fit.{one_stands, two_stands}
use Rattle.ygg_shape_cells.proofs.pairs.put_sides.Goals as goal

pub side-one-requires : goal.side-one-requires
side-one-requires c = one_stands c.args.bank.now c.args.pair.one c.args.pair.two c.requires

pub side-two-requires : goal.side-two-requires
side-two-requires c = two_stands c.args.bank.now c.args.pair.one c.args.pair.two c.requires
