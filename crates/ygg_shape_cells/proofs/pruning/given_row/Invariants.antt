use Rattle.std.proofs.Common.{ℕ, All}
use Rattle.ygg_shape_words.specs.ygg_bank.Nodes.{Extends, IsBank}
use Rattle.ygg_shape_words.specs.Giving.{given}
use Rattle.ygg_shape_cells.proofs.Steps.{EachFrom}
use Rattle.ygg_shape_cells.proofs.Wider.{IsWide}
use Rattle.ygg_shape_cells.proofs.pruning.given_row.Given as goal

abbrev pub invariant-loop-number : goal.invariant-loop-number
invariant-loop-number g l = record {
  went : EachFrom (λ number a. given (g.B.Book.kinds l.book) l.test l.value a) l.row l.fn.bank l.number l.pruned l.bank;
  wide : (w : ℕ) → All (IsWide l.fn.bank w) l.row → All (IsWide l.bank w) l.pruned;
  grows : Extends l.fn.bank l.bank;
  bank : IsBank l.bank;
}
