use Rattle.std.proofs.Common.{◌+◌, ◌*◌}
use Rattle.ygg_shape_sums.proofs.cancelling.+cancels.Given as goal

abbrev pub decreases-cancels_within : goal.decreases-cancels_within
decreases-cancels_within l = 2 * l.depth

abbrev pub decreases-cancels_where : goal.decreases-cancels_where
decreases-cancels_where l = 2 * l.depth + 1
