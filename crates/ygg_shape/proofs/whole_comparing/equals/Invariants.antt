use Rattle.std.proofs.Common.{All}
use Rattle.ygg_shape_cells.specs.ygg_bank.Nodes.{Extends, IsBank}
use Rattle.ygg_shape.specs.Comparing.{compared, IsDigit}
use Rattle.ygg_shape_cells.proofs.Steps.{EachTwo}
use Rattle.ygg_shape.proofs.whole_comparing.equals.Given as goal

-- the places so far, and those that are left
abbrev pub invariant-loop-place : goal.invariant-loop-place
invariant-loop-place g l = record {
  went : EachTwo (compared (g.B.Book.kinds l.book)) l.ones l.twos l.fn.bank l.place l.digits.items l.bank;
  digits : All (IsDigit l.bank) l.digits.items;
  grows : Extends l.fn.bank l.bank;
  bank : IsBank l.bank;
}
