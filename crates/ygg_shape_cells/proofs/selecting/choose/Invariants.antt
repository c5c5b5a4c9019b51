use Rattle.std.proofs.Common.{ℕ, All}
use Rattle.ygg_shape_words.specs.ygg_bank.Nodes.{Extends, IsBank}
use Rattle.ygg_shape_cells.specs.Making.{where_at}
use Rattle.ygg_shape_cells.specs.Terms.{IsRow}
use Rattle.ygg_shape_cells.proofs.Steps.{FoldFrom}
use Rattle.ygg_shape_cells.proofs.selecting.choose.Given as goal

abbrev pub invariant-loop-number : goal.invariant-loop-number
invariant-loop-number g l = record {
  went : FoldFrom (λ so_far number row. where_at (g.B.Book.kinds l.book) l.place.at l.place.width number row so_far) l.fn.past l.table l.fn.bank
      l.number l.row l.bank;
  grows : Extends l.fn.bank l.bank;
  shape : (words width : ℕ) → All (IsRow l.fn.bank words width) l.table → IsRow l.fn.bank words width l.fn.past → IsRow l.bank words width l.row;
  bank : IsBank l.bank;
}
