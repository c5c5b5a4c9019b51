use Rattle.ygg_shape_cells.proofs.PairSteps.{WithoutSoFar}
use Rattle.ygg_shape_cells.proofs.pairs.without.Given as goal

abbrev pub invariant-loop-pair : goal.invariant-loop-pair
invariant-loop-pair l = WithoutSoFar l.bank l.test l.pairs l.pair-index l.found.items
