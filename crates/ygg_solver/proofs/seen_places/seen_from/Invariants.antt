use Rattle.std.proofs.Common.{◌-◌, ◌<◌, ◌≤◌, ℕ}
use Rattle.ygg_solver.specs.Learning.{IsSeenAt}
use Rattle.ygg_solver.proofs.seen_places.seen_from.Given as goal

abbrev pub invariant-loop-at : goal.invariant-loop-at
invariant-loop-at l = (l.low ≤ l.at) × (l.at < l.end) × ((q : ℕ) → l.at < q → q < l.end → IsSeenAt l.seen l.trail q → ⊥)

abbrev pub decreases-loop-at : goal.decreases-loop-at
decreases-loop-at l = l.at - l.low
