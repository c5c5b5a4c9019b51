use Rattle.std.proofs.Common.{All}
use Rattle.ygg_shape_words.specs.ygg_bank.Nodes.{Stands}
use Rattle.ygg_shape_sums.specs.Plain.{ArePlain, IsPlain}
use Rattle.ygg_shape_sums.proofs.plain.are_plain.Given as goal

-- what is still to be looked at stands among the nodes, and where all of it is plain, so are both words
abbrev pub invariant-loop : goal.invariant-loop
invariant-loop l = record {
  stand : All (Stands l.bank) l.todo.items;
  leads : All (IsPlain l.bank) l.todo.items → ArePlain l.bank l.fn.one l.fn.two;
}
