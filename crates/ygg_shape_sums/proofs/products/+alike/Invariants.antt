use Rattle.std.proofs.Common.{length}
use Rattle.ygg_shape_sums.proofs.products.+alike.Given as goal

abbrev pub decreases-alike : goal.decreases-alike
decreases-alike l = length l.one.now
