use Rattle.ygg_gates.proofs.Steps.{Multiplying}
use Rattle.ygg_gates.proofs.sums.multiply.Given as goal

abbrev pub invariant-loop-place : goal.invariant-loop-place
invariant-loop-place l = Multiplying l.xs l.fn.first l.ys l.fn.gates.items l.place l.sum l.gates.items
