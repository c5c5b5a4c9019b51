use Rattle.std.proofs.Common.{length, ◌-◌}
use Rattle.ygg_watch.proofs.heap.sink.Given as goal

abbrev pub decreases-loop-at : goal.decreases-loop-at
decreases-loop-at l = length l.heap - l.at
