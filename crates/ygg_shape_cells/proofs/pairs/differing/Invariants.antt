use Rattle.ygg_shape_cells.proofs.PairSteps.{DifferingSoFar}
use Rattle.ygg_shape_cells.proofs.pairs.differing.Given as goal

abbrev pub invariant-loop-place : goal.invariant-loop-place
invariant-loop-place l = DifferingSoFar l.one l.two l.place l.pairs.items
