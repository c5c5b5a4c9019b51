use Rattle.ygg_gates.proofs.Steps.{Freed}
use Rattle.ygg_gates.proofs.pairs.free_bits.Given as goal

abbrev pub invariant-loop : goal.invariant-loop
invariant-loop l = Freed l.width l.fn.gates.items l.counter l.bits l.gates.items
