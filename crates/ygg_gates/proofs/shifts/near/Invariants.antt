use Rattle.std.proofs.Common.{length, ◌-◌}
use Rattle.ygg_gates.proofs.Numbers.{Nearing}
use Rattle.ygg_gates.proofs.shifts.near.Given as goal

abbrev pub invariant-loop-count : goal.invariant-loop-count
invariant-loop-count l = Nearing l.width l.amount l.count l.rest

abbrev pub decreases-loop-count : goal.decreases-loop-count
decreases-loop-count l = length l.amount - l.count
