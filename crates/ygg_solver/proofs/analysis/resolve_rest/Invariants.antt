use Rattle.std.proofs.Common.{◌≤◌, length}
use Rattle.ygg_cnf_set.specs.LiteralSet.{InSet}
use Rattle.ygg_solver.specs.Learning.{ChainReaches}
use Rattle.ygg_watch.specs.Trail.{IsFalseBefore}
use Rattle.ygg_solver.proofs.analysis.resolve_rest.Given as goal

abbrev pub invariant-loop-at : goal.invariant-loop-at
invariant-loop-at l = record {
  within : l.end ≤ length l.trail;
  falses : (y : _) → InSet l.seen y → IsFalseBefore l.trail l.end y;
  reached : ChainReaches l.clauses l.seen l.chain.items;
}

abbrev pub decreases-loop-at : goal.decreases-loop-at
decreases-loop-at l = l.end
