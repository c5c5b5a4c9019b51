use Rattle.ygg_gates.proofs.Steps.{Shifting}
use Rattle.ygg_gates.proofs.shifts.shift_near.Given as goal

abbrev pub invariant-loop-place : goal.invariant-loop-place
invariant-loop-place l = Shifting l.way l.fn.first l.amount l.fn.gates.items l.place l.value l.gates.items
