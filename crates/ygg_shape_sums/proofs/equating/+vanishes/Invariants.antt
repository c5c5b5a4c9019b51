use Rattle.std.proofs.Common.{◌+◌, ◌*◌}
use Rattle.ygg_shape_sums.proofs.equating.+vanishes.Given as goal

abbrev pub decreases-vanishes_within : goal.decreases-vanishes_within
decreases-vanishes_within g l = 3 * l.depth

abbrev pub decreases-vanishes_where : goal.decreases-vanishes_where
decreases-vanishes_where g l = 3 * l.depth + 1

abbrev pub decreases-vanishes_split : goal.decreases-vanishes_split
decreases-vanishes_split g l = 3 * l.depth + 2
