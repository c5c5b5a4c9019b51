use Rattle.std.proofs.Common.{◌≤◌, ℕ, length, IsSome}
use Rattle.ygg_watch.specs.Trail.{IsAt}
use Rattle.ygg_solver.proofs.seen_places.last_decision.Given as goal

abbrev pub invariant-loop-at : goal.invariant-loop-at
invariant-loop-at l = (l.at ≤ length l.trail) × ((q : ℕ) (e : _) → l.at ≤ q → IsAt l.trail q e → IsSome e.reason)

abbrev pub decreases-loop-at : goal.decreases-loop-at
decreases-loop-at l = l.at
