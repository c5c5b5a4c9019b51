use Rattle.std.proofs.Common.{◌≤◌}
use Rattle.ygg_solver.specs.Learning.{IsReduced}
use Rattle.ygg_solver.proofs.analysis.remove_below.Given as goal

abbrev pub invariant-loop-place : goal.invariant-loop-place
invariant-loop-place l = record {
  within : l.place ≤ l.start;
  reduced : IsReduced l.clauses l.seen l.trail l.start l.at l.chain.items;
}

abbrev pub decreases-loop-place : goal.decreases-loop-place
decreases-loop-place l = l.place
