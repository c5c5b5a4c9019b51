use Rattle.ygg_solver.specs.Learning.{IsReduced}
use Rattle.ygg_solver.proofs.analysis.minimize.Given as goal

abbrev pub invariant-loop-place : goal.invariant-loop-place
invariant-loop-place l = record { reduced : IsReduced l.clauses l.seen l.trail l.start l.at l.chain.items }
