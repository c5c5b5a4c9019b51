use Rattle.ygg_shape_words.specs.ygg_bank.Nodes.{Extends, HasWidth, IsBank}
use Rattle.ygg_shape_sums.proofs.Steps.{TimesAll}
use Rattle.ygg_shape_sums.proofs.remaining.times_all.Given as goal

abbrev pub invariant-loop-factor : goal.invariant-loop-factor
invariant-loop-factor g l = record {
  went : TimesAll (g.B.Book.kinds l.book) l.factors l.fn.first l.fn.bank l.factor-index l.all l.bank;
  grows : Extends l.fn.bank l.bank;
  wide : HasWidth l.bank l.all l.width;
  bank : IsBank l.bank;
}
