use Rattle.std.proofs.Common.{◌≡◌, ◌++◌, drop}
use Rattle.ygg_oblige_list.specs.Listing.{AreNumbered, asked_in, calls_of}
use Rattle.ygg_oblige_list.proofs.listing.add_calls.Given as goal

-- those so far, and then those of what is left
abbrev pub invariant-loop-i : goal.invariant-loop-i
invariant-loop-i l = record {
  asked : asked_in l.list.items ++ calls_of (drop l.i l.layer.operations) ≡ asked_in l.initial.list.items ++ calls_of l.layer.operations;
  numbered : AreNumbered l.layer l.list.items;
}
