use Rattle.ygg_shape_words.specs.ygg_bank.Nodes.{Extends, IsBank}
use Rattle.ygg_shape_sums.proofs.Steps.{WithTerms}
use Rattle.ygg_shape_sums.specs.Parts.{PartsFit, empty}
use Rattle.ygg_shape_sums.proofs.remaining.with_terms.Given as goal

abbrev pub invariant-loop-product : goal.invariant-loop-product
invariant-loop-product g l = record {
  went : WithTerms (g.B.Book.kinds l.book) l.width l.products (empty l.number) l.fn.bank l.product-index l.sum l.bank;
  grows : Extends l.fn.bank l.bank;
  fit : PartsFit l.bank l.width (l.sum).parts;
  bank : IsBank l.bank;
}
