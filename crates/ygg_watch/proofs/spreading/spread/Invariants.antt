use Rattle.std.proofs.Common.{◌≡◌, ◌-◌, length}
use Rattle.ygg_watch.specs.Status.{state_of}
use Rattle.ygg_watch.specs.Propagation.{Spreads}
use Rattle.ygg_watch.proofs.spreading.spread.Given as goal

abbrev pub invariant-loop-id : goal.invariant-loop-id
invariant-loop-id l = record {
  spreads : Spreads (state_of l.clauses l.initial.trail) (state_of l.clauses l.trail);
  starts : l.trail.starts.items ≡ l.initial.trail.starts.items;
  variable_count : l.trail.variable_count ≡ l.initial.trail.variable_count;
}

abbrev pub decreases-loop-id : goal.decreases-loop-id
decreases-loop-id l = l.trail.variable_count - length l.trail.entries.items
