use Rattle.std.proofs.Common.{◌≡◌, ◌-◌, []}
use Rattle.ygg_watch.specs.Status.{state_of}
use Rattle.ygg_watch.specs.Propagation.{Spreads}
use Rattle.ygg_watch.specs.State.{IsLive}
use Rattle.ygg_watch.proofs.visit.visit_all.Given as goal

abbrev pub invariant-loop-head : goal.invariant-loop-head
invariant-loop-head l = record {
  live : IsLive l.clauses l.links.watched l.links.next l.links.firsts [] l.trail.entries.items l.trail.variable_count l.frames l.head l.seen;
  spreads : Spreads (state_of l.clauses l.initial.trail) (state_of l.clauses l.trail);
  starts : l.trail.starts.items ≡ l.initial.trail.starts.items;
  variable_count : l.trail.variable_count ≡ l.initial.trail.variable_count;
}

abbrev pub decreases-loop-head : goal.decreases-loop-head
decreases-loop-head l = l.trail.variable_count - l.head
