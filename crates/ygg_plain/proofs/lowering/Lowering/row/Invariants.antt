use Rattle.std.proofs.Common.{◌≡◌, length}
use Rattle.ygg_plain.proofs.lowering.Lowering.row.Given as goal

abbrev pub invariant-loop-k : goal.invariant-loop-k
invariant-loop-k l = record { width : l.row.width ≡ l.initial.row.width; words : length l.row.words ≡ length l.initial.row.words }
