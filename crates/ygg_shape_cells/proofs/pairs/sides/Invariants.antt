use Rattle.ygg_shape_cells.proofs.PairSteps.{SidesSoFar}
use Rattle.ygg_shape_cells.proofs.pairs.sides.Given as goal

abbrev pub invariant-loop-pair : goal.invariant-loop-pair
invariant-loop-pair l = SidesSoFar l.bank l.test l.value l.pairs l.pair-index l.found.items
