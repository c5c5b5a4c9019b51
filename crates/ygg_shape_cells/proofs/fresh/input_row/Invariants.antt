use Rattle.std.proofs.Common.{ℕ, ◌+◌, replicate}
use Rattle.ygg_shape_words.specs.ygg_bank.Inputs.{InputsBelow}
use Rattle.ygg_shape_words.specs.ygg_bank.Making.{made}
use Rattle.ygg_shape_words.specs.ygg_bank.Nodes.{Extends, IsBank}
use Rattle.ygg_shape_words.specs.ygg_bank.declared.node.Node.TheVariants.{Input}
use Rattle.ygg_shape_cells.proofs.Steps.{EachFrom}
use Rattle.ygg_shape_cells.proofs.fresh.input_row.Given as goal

abbrev pub invariant-loop-place : goal.invariant-loop-place
invariant-loop-place g l = record {
  went : EachFrom (λ i (x : ℕ). made (g.B.Book.kinds l.book) (Input (l.number + i) l.width)) (replicate l.words 0) l.fn.bank l.place l.row l.bank;
  below : InputsBelow (l.number + l.place) l.bank;
  grows : Extends l.fn.bank l.bank;
  bank : IsBank l.bank;
}
