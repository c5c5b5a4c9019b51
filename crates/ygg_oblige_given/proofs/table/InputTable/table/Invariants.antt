use Rattle.std.proofs.Common.{◌≡◌, ◌+◌, ◌*◌, length, take}
use Rattle.ygg_oblige_laws.specs.ygg_shape.Fresh.{rows_from}
use Rattle.ygg_oblige_given.specs.Tables.{inputs_in}
use Rattle.ygg_oblige_given.proofs.table.InputTable.table.Given as goal

-- the rows so far
abbrev pub invariant-loop-at : goal.invariant-loop-at
invariant-loop-at l =
    (take l.at l.table.rows ≡ rows_from (inputs_in l.self) l.number l.at l.words) × (l.table.width ≡ l.width) × (l.table.words ≡ l.words)
    × (length l.table.rows ≡ l.rows) × (l.next ≡ l.number + l.at * l.words)
