use Rattle.std.proofs.Common.{◌≡◌, map, take}
use Rattle.ygg_shape.specs.Replacing.{replaced_row}
use Rattle.ygg_shape.proofs.replacing.replaced_table.Given as goal

abbrev pub invariant-loop-row : goal.invariant-loop-row
invariant-loop-row l = l.answer ≡ map (replaced_row l.replacements) (take l.row-index l.row-items)
