use Rattle.std.proofs.Common.{◌≡◌, ◌++◌, map, take, length}
use Rattle.std.specs.List.{join_with_byte}
use Rattle.ygg_sched.specs.Values.{row_text}
use Rattle.ygg_sched.proofs.value_writing.put_table.Given as goal

-- the rows so far, and a row of the right size to read into
abbrev pub invariant-loop-at : goal.invariant-loop-at
invariant-loop-at l =
    (l.out ≡ l.initial.out ++ join_with_byte 59 (map (row_text l.table.width) (take l.at l.table.rows)))
    × (l.row.width ≡ l.table.width) × (length l.row.words ≡ l.table.words)
