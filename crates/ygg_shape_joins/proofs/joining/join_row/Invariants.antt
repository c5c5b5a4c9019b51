use Rattle.ygg_shape_words.specs.ygg_bank.Nodes.{Extends, IsBank}
use Rattle.ygg_shape_joins.specs.Joining.{joined_word}
use Rattle.ygg_shape_cells.proofs.Steps.{EachTwo}
use Rattle.ygg_shape_joins.proofs.joining.join_row.Given as goal

abbrev pub invariant-loop-place : goal.invariant-loop-place
invariant-loop-place g l = record {
  went : EachTwo (joined_word (g.B.Book.kinds l.book) l.test) l.yes l.no l.fn.bank l.place l.row l.bank;
  grows : Extends l.fn.bank l.bank;
  bank : IsBank l.bank;
}
