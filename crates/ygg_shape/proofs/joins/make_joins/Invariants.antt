use Rattle.ygg_shape_cells.specs.ygg_bank.Nodes.{Extends, IsBank}
use Rattle.ygg_shape.proofs.Walks.{MadeSoFar}
use Rattle.ygg_shape.proofs.joins.make_joins.Given as goal

abbrev pub invariant-loop-join : goal.invariant-loop-join
invariant-loop-join g l = record {
  went : MadeSoFar (g.B.Book.kinds l.book) l.joins l.fn.facts l.fn.bank l.join-index l.facts l.bank;
  grows : Extends l.fn.bank l.bank;
  bank : IsBank l.bank;
}
