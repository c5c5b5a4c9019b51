use Rattle.ygg_gates.proofs.Steps.{Adding}
use Rattle.ygg_gates.proofs.sums.add.Given as goal

abbrev pub invariant-loop-place : goal.invariant-loop-place
invariant-loop-place l = Adding l.xs l.ys l.fn.carry l.fn.gates.items l.place l.bits l.carry l.gates.items
