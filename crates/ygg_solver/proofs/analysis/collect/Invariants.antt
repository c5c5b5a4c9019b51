use Rattle.std.proofs.Common.{Contains}
use Rattle.ygg_cnf_set.specs.LiteralSet.{InSet}
use Rattle.ygg_watch.specs.Trail.{IsFalseBefore}
use Rattle.ygg_solver.proofs.analysis.collect.Given as goal

abbrev pub invariant-loop-at : goal.invariant-loop-at
invariant-loop-at l = record {
  is_seen : (y : _) → Contains l.clause y → InSet l.seen y;
  all : (y : _) → InSet l.seen y → IsFalseBefore l.trail l.at y → Contains l.clause y;
}
