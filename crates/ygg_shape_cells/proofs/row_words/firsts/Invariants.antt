use Rattle.std.proofs.Common.{◌≡◌, map, take}
use Rattle.ygg_shape_cells.specs.RowPlaces.{first}
use Rattle.ygg_shape_cells.proofs.row_words.firsts.Given as goal

abbrev pub invariant-loop-single : goal.invariant-loop-single
invariant-loop-single l = l.row ≡ map first (take l.single-index l.table)
