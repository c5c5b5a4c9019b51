use Rattle.std.proofs.Common.{◌≡◌, ◌≤◌, List, ◌++◌, length, vec_capacity}
use Rattle.ygg_cnf_set.specs.LiteralSet.{IsSetOf}
use Rattle.ygg_watch.specs.Trail.{IsOnTrail}
use Rattle.ygg_watch.specs.declared.entry.Entry.{Entry}
use Rattle.ygg_watch.proofs.assignments.cut.Given as goal

abbrev pub invariant-loop-entries : goal.invariant-loop-entries
invariant-loop-entries l = record {
  items : (rest : List Entry) × (l.entries.items ++ rest ≡ l.initial.entries.items);
  place : l.place ≤ length l.entries.items;
  size : length l.truth ≡ length l.initial.truth;
  capacity : vec_capacity l.entries ≡ vec_capacity l.initial.entries;
  seen : IsSetOf l.truth (IsOnTrail l.entries.items);
}

abbrev pub decreases-loop-entries : goal.decreases-loop-entries
decreases-loop-entries l = length l.entries.items
