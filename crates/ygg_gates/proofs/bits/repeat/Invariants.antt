use Rattle.std.proofs.Common.{◌≡◌, ◌++◌, replicate}
use Rattle.ygg_gates.proofs.bits.repeat.Given as goal

abbrev pub invariant-loop : goal.invariant-loop
invariant-loop l = l.bits ≡ l.fn.bits ++ replicate l.counter l.bit
