use Rattle.ygg_shape_cells.proofs.Fit.{one_stands, two_stands}
use Rattle.ygg_shape_cells.proofs.sharing.better_of.Goals as goal

pub better-first-requires-clause-word : goal.better-first-requires-clause-word
better-first-requires-clause-word c = one_stands c.args.bank.now c.args.pair.one c.args.pair.two c.requires.pair

pub better-requires-clause-word : goal.better-requires-clause-word
better-requires-clause-word c = two_stands c.args.bank.now c.args.pair.one c.args.pair.two c.requires.pair
