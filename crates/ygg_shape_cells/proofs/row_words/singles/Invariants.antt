use Rattle.std.proofs.Common.{◌≡◌, take}
use Rattle.ygg_shape_cells.specs.RowPlaces.{singles}
use Rattle.ygg_shape_cells.proofs.row_words.singles.Given as goal

abbrev pub invariant-loop-word : goal.invariant-loop-word
invariant-loop-word l = l.table ≡ singles (take l.word-index l.row)
