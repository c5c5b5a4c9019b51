use Rattle.ygg_shape_words.specs.ygg_bank.Nodes.{Extends, IsBank}
use Rattle.ygg_shape_cells.specs.Making.{where_at}
use Rattle.ygg_shape_cells.proofs.Steps.{EachFrom}
use Rattle.ygg_shape_cells.proofs.storing.store_all.Given as goal

abbrev pub invariant-loop-number : goal.invariant-loop-number
invariant-loop-number g l = record {
  went : EachFrom (λ number old. where_at (g.B.Book.kinds l.book) l.place.at l.place.width number l.new old) l.table l.fn.bank l.number l.rows l.bank;
  grows : Extends l.fn.bank l.bank;
  bank : IsBank l.bank;
}
