use Rattle.std.proofs.Common.{drop}
use Rattle.ygg_oblige_list.specs.Listing.{asked_in}
use Rattle.ygg_oblige.specs.Makers.{starting_of}
use Rattle.ygg_oblige.proofs.Asking.{AsksOn}
use Rattle.ygg_oblige.proofs.Going.{Going}
use Rattle.ygg_oblige.proofs.layers.add_all.Given as goal

-- the obligations so far, and those that are left
abbrev pub invariant-loop-each : goal.invariant-loop-each
invariant-loop-each g l = record {
  going :
      Going (g.B.Book.kinds l.maker.book.now) l.maker.layer l.maker.below (starting_of l.s) (asked_in l.asked) l.start l.fn.bank l.fn.all
      (asked_in (drop l.each-index l.asked)) l.next l.bank l.all;
  asks : AsksOn l.place l.maker.layer.layer.now (asked_in l.asked) l.fn.all (asked_in (drop l.each-index l.asked)) l.all;
}
