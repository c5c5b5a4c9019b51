use Rattle.ygg_dimacs.proofs.Gatewise.{Counting}
use Rattle.ygg_dimacs.proofs.counting.count_gates.Given as goal

abbrev pub invariant-loop-place : goal.invariant-loop-place
invariant-loop-place l = Counting l.gates l.fn.total l.place l.sum
