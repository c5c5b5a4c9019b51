use Rattle.ygg_gates.proofs.Steps.{Equalling}
use Rattle.ygg_gates.proofs.comparisons.equal.Given as goal

abbrev pub invariant-loop-at : goal.invariant-loop-at
invariant-loop-at l = Equalling l.fn.first l.xs l.ys l.fn.gates.items l.at l.so_far l.gates.items
