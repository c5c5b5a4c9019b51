use Rattle.std.proofs.Common.{◌≡◌, ◌<◌, ℕ, List, length}
use Rattle.ygg_cnf_set.specs.LiteralSet.{code_of}
use Rattle.ygg_cnf.specs.Literals.{complement}
use Rattle.ygg_watch.specs.Status.{state_of}
use Rattle.ygg_watch.specs.Propagation.{Spreads}
use Rattle.ygg_watch.specs.Trail.{IsAt}
use Rattle.ygg_watch.specs.declared.entry.Entry.{Entry}
use Rattle.ygg_watch.proofs.ListLemmas.{walk}
use Rattle.ygg_watch.specs.Lists.{IsPending}
use Rattle.ygg_watch.specs.State.{IsLive}
use Rattle.ygg_watch.specs.Watching.{IsDone}
use Rattle.ygg_watch.proofs.visit.visit.Given as goal

abbrev pub invariant-loop-at : goal.invariant-loop-at
invariant-loop-at l = record {
  pending : (rest : List ℕ) × (IsPending l.links.next l.links.watched l.at l.code_now rest
      × (IsLive l.clauses l.links.watched l.links.next l.links.firsts rest l.trail.entries.items l.trail.variable_count l.frames l.head l.seen
      × IsDone l.links.watched l.trail.entries.items l.code_now rest));
  entry : (e : Entry) × (IsAt l.trail.entries.items l.head e × (e.lit ≡ complement l.fn.lit));
  spreads : Spreads (state_of l.clauses l.initial.trail) (state_of l.clauses l.trail);
  starts : l.trail.starts.items ≡ l.initial.trail.starts.items;
  variable_count : l.trail.variable_count ≡ l.initial.trail.variable_count;
  code : l.code_now ≡ code_of l.fn.lit;
  code_within : l.code_now < length l.links.firsts;
}

abbrev pub decreases-loop-at : goal.decreases-loop-at
decreases-loop-at l = walk (length l.links.next) l.links.next l.at
