use Rattle.ygg_shape_words.specs.ygg_bank.Nodes.{Extends, HasWidth, IsBank}
use Rattle.ygg_shape_sums.proofs.Steps.{AllMore}
use Rattle.ygg_shape_sums.proofs.siding.all_more.Given as goal

abbrev pub invariant-loop-part : goal.invariant-loop-part
invariant-loop-part g l = record {
  went : AllMore (g.B.Book.kinds l.book) l.width l.second l.parts l.fn.so_far l.fn.bank l.part-index l.all l.bank;
  grows : Extends l.fn.bank l.bank;
  wide : HasWidth l.bank l.all l.width;
  bank : IsBank l.bank;
}
