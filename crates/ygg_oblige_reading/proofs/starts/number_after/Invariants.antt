use Rattle.std.proofs.Common.{◌≡◌, drop}
use Rattle.std.specs.Prelude.{All}
use Rattle.ygg_oblige_list.specs.Listing.{asked_in}
use Rattle.ygg_oblige.specs.Adding.{after_at}
use Rattle.ygg_oblige_reading.specs.Listing.{ArgumentsKept}
use Rattle.ygg_oblige_reading.proofs.starts.number_after.Given as goal

-- what is left is numbered on from the number after those so far
abbrev pub invariant-loop-each : goal.invariant-loop-each
invariant-loop-each g l = record {
  same :
      after_at (g.B.Book.kinds l.maker.book.now) l.maker.layer l.maker.below (asked_in (drop l.each-index l.asked)) l.next
      ≡ after_at (g.B.Book.kinds l.maker.book.now) l.maker.layer l.maker.below (asked_in l.asked) l.first;
  kept : All ArgumentsKept (asked_in (drop l.each-index l.asked));
}
