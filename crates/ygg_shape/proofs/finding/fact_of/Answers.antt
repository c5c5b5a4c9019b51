use Rattle.ygg_shape_cells.proofs.Fit.{one_stands, two_stands}
use Rattle.ygg_shape.proofs.finding.fact_of.Goals as goal

pub node-requires : goal.node-requires
node-requires c = one_stands c.args.bank.now c.args.pair.one c.args.pair.two c.requires

pub node-requires-2 : goal.node-requires-2
node-requires-2 c = two_stands c.args.bank.now c.args.pair.one c.args.pair.two c.requires
