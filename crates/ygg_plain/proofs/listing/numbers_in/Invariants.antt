use Rattle.std.proofs.Common.{◌≡◌, length}
use Rattle.ygg_plain.proofs.listing.numbers_in.Given as goal

abbrev pub invariant-loop-k : goal.invariant-loop-k
invariant-loop-k l = record { width : l.row.width ≡ l.table.width; words : length l.row.words ≡ l.table.words }
