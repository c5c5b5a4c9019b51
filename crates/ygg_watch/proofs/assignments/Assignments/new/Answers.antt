use Rattle.std.proofs.Common.{sym, ◌∙◌}
use Rattle.ygg_watch.proofs.AssignmentLemmas.{trail_none, levelled_none, kept_made}
use Rattle.ygg_watch.proofs.assignments.Assignments.new.Goals as goal

pub invariant_of-result : goal.invariant_of-result
invariant_of-result c = record {
  small = c.if-variable_count.false;
  trail = rw c.in_ok-entries.ensures.items (trail_none c.args.variable_count);
  levelled = rw (c.in_ok-entries.ensures.items, c.in_ok-starts.ensures.items) levelled_none;
  kept = rw c.in_ok-entries.ensures.items (kept_made c.in_ok-truth.truth.items c.in_ok-places.places.items c.args.variable_count
      (c.in_ok-truth.ensures.items_if_clones_equal (λ y e. e))
      (sym c.in_ok-truth.truth.ok.0 ∙ c.in_ok-truth.ensures.len) (sym c.in_ok-places.places.ok.0 ∙ c.in_ok-places.ensures.len));
  reserved = c.in_ok-entries.ensures.capacity;
  levels = c.in_ok-starts.ensures.capacity;
}
