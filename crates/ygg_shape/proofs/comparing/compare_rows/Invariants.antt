use Rattle.ygg_shape_cells.specs.ygg_bank.Nodes.{Extends, HasWidth, IsBank}
use Rattle.ygg_shape.specs.Comparing.{compared_row}
use Rattle.ygg_shape_cells.proofs.Steps.{FoldTwo}
use Rattle.ygg_shape.proofs.comparing.compare_rows.Given as goal

abbrev pub invariant-loop-place : goal.invariant-loop-place
invariant-loop-place g l = record {
  went : FoldTwo (compared_row (g.B.Book.kinds l.book)) l.fn.so_far l.one l.two l.fn.bank l.place l.all l.bank;
  grows : Extends l.fn.bank l.bank;
  wide : HasWidth l.bank l.all 1;
  bank : IsBank l.bank;
}
