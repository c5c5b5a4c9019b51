use Rattle.ygg_sym_bodies.proofs.NextNumber.{BelowSoFar}
use Rattle.ygg_sym_bodies.proofs.number.next_input.Given as goal

abbrev pub invariant-loop-place : goal.invariant-loop-place
invariant-loop-place l = BelowSoFar l.bank l.place l.next
