use Rattle.std.proofs.Common.{◌≡◌, length, take}
use Rattle.ygg_oblige_laws.specs.ygg_shape.Fresh.{numbers_from}
use Rattle.ygg_oblige_given.specs.Tables.{inputs_in}
use Rattle.ygg_oblige_given.proofs.table.InputTable.row.Given as goal

-- the numbers so far
abbrev pub invariant-loop-at : goal.invariant-loop-at
invariant-loop-at l =
    (take l.at l.row.words ≡ numbers_from (inputs_in l.self) l.number l.at) × (l.row.width ≡ l.width) × (length l.row.words ≡ l.words)
