use Rattle.ygg_shape_sums.specs.ygg_bank.Nodes.{Extends, HasWidth, IsBank}
use Rattle.ygg_shape.proofs.EquateSteps.{JoinedSoFar}
use Rattle.ygg_shape.proofs.equating.one_by_one.Given as goal

abbrev pub invariant-loop-pair : goal.invariant-loop-pair
invariant-loop-pair g l = record {
  went : JoinedSoFar (g.B.Book.kinds l.book) l.pairs l.fn.bank l.pair-index l.all l.bank;
  grows : Extends l.fn.bank l.bank;
  wide : HasWidth l.bank l.all 1;
  bank : IsBank l.bank;
}
