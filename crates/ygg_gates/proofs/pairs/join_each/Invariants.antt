use Rattle.ygg_gates.proofs.Steps.{Joined}
use Rattle.ygg_gates.proofs.pairs.join_each.Given as goal

abbrev pub invariant-loop-place : goal.invariant-loop-place
invariant-loop-place l = Joined l.joint l.xs l.ys l.fn.gates.items l.place l.bits l.gates.items
