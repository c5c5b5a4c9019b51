use Rattle.std.proofs.Common.{◌<◌, ◌≤◌, ◌+◌, length}
use Rattle.ygg_cnf_set.specs.LiteralSet.{InSet}
use Rattle.ygg_solver.specs.Learning.{IsSeenAt, ChainReaches}
use Rattle.ygg_watch.specs.Trail.{IsFalseBefore}
use Rattle.ygg_solver.proofs.analysis.resolve_to_one.Given as goal

abbrev pub invariant-loop-other : goal.invariant-loop-other
invariant-loop-other l = record {
  from : l.start ≤ l.at;
  within : l.at < length l.trail;
  is_seen : IsSeenAt l.seen l.trail l.at;
  falses : (y : _) → InSet l.seen y → IsFalseBefore l.trail (l.at + 1) y;
  reached : ChainReaches l.clauses l.seen l.chain.items;
}

abbrev pub decreases-loop-other : goal.decreases-loop-other
decreases-loop-other l = l.at
