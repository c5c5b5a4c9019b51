use Rattle.ygg_gates.proofs.Numbers.{Spelling}
use Rattle.ygg_gates.proofs.bits.constant_bits.Given as goal

abbrev pub invariant-loop : goal.invariant-loop
invariant-loop l = Spelling l.fn.word.width l.fn.word.bits l.counter l.bits l.rest
