use Rattle.ygg_gates.proofs.Steps.{Anying}
use Rattle.ygg_gates.proofs.comparisons.any.Given as goal

abbrev pub invariant-loop-at : goal.invariant-loop-at
invariant-loop-at l = Anying l.fn.first l.bits l.fn.gates.items l.at l.so_far l.gates.items
