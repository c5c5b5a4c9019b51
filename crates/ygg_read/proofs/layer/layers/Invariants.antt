use Rattle.std.proofs.Common.{length}
use Rattle.ygg_read.proofs.ClaimLists.{LayersRead}
use Rattle.ygg_read.proofs.layer.layers.Given as goal

-- the layers so far
abbrev pub invariant-loop-place : goal.invariant-loop-place
invariant-loop-place l = LayersRead l.fn.reader l.all l.reader

abbrev pub decreases-loop-place : goal.decreases-loop-place
decreases-loop-place l = length l.reader
