use Rattle.std.proofs.Common.{◌≡◌, replicate}
use Rattle.ygg_shape_cells.proofs.wholes.repeated.Given as goal

abbrev pub invariant-loop-place : goal.invariant-loop-place
invariant-loop-place l = l.table ≡ replicate l._place l.row
