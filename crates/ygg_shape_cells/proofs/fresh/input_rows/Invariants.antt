use Rattle.std.proofs.Common.{ℕ, ◌+◌, ◌*◌, replicate}
use Rattle.ygg_shape_words.specs.ygg_bank.Inputs.{InputsBelow}
use Rattle.ygg_shape_words.specs.ygg_bank.Nodes.{Extends, IsBank}
use Rattle.ygg_shape_cells.proofs.Steps.{EachFrom}
use Rattle.ygg_shape_cells.specs.Fresh.{fresh_row}
use Rattle.ygg_shape_cells.proofs.fresh.input_rows.Given as goal

abbrev pub invariant-loop-place : goal.invariant-loop-place
invariant-loop-place g l = record {
  went : EachFrom (λ i (x : ℕ). fresh_row (g.B.Book.kinds l.book) (l.number + i * l.words) l.words l.width) (replicate l.rows 0) l.fn.bank l.place
      l.table l.bank;
  below : InputsBelow (l.number + l.place * l.words) l.bank;
  grows : Extends l.fn.bank l.bank;
  bank : IsBank l.bank;
}
