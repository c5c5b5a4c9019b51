use Rattle.std.proofs.Common.{◌≡◌, length}
use Rattle.ygg_plain.proofs.lowering.Lowering.table.Given as goal

abbrev pub invariant-loop-k : goal.invariant-loop-k
invariant-loop-k l = record {
  width : l.table.width ≡ l.initial.table.width;
  words : l.table.words ≡ l.initial.table.words;
  rows : length l.table.rows ≡ length l.initial.table.rows;
  row_width : l.row.width ≡ l.initial.table.width;
  row_words : length l.row.words ≡ l.initial.table.words;
}
