use Rattle.std.proofs.Common.{◌≡◌, ◌≤◌, ◌-◌, length, []}
use Rattle.ygg_watch.specs.Status.{state_of}
use Rattle.ygg_watch.specs.Propagation.{Spreads}
use Rattle.ygg_watch.specs.State.{IsLive}
use Rattle.ygg_watch.proofs.examine.examine_all.Given as goal

abbrev pub invariant-loop-seen : goal.invariant-loop-seen
invariant-loop-seen l = record {
  live : IsLive l.clauses l.links.watched l.links.next l.links.firsts [] l.trail.entries.items l.trail.variable_count l.frames l.head l.seen;
  within : l.seen ≤ length l.clauses;
  spreads : Spreads (state_of l.clauses l.initial.trail) (state_of l.clauses l.trail);
  starts : l.trail.starts.items ≡ l.initial.trail.starts.items;
  variable_count : l.trail.variable_count ≡ l.initial.trail.variable_count;
}

abbrev pub decreases-loop-seen : goal.decreases-loop-seen
decreases-loop-seen l = length l.clauses - l.seen
