use Rattle.std.proofs.Common.{◌≡◌, ◌-◌, take, length}
use Rattle.std.specs.Option.{option_copied}
use Rattle.ygg_sched.specs.Values.{exactly, row_in, rows_in}
use Rattle.ygg_sched.proofs.Cutting.{pieces_of}
use Rattle.ygg_sched.proofs.Pieces.{with_front}
use Rattle.ygg_sched.proofs.value_reading.table_of.Given as goal

-- the rows so far, and then those of the pieces that are left
abbrev pub invariant-loop-at : goal.invariant-loop-at
invariant-loop-at l =
    (with_front (take l.at l.table.rows) (exactly (row_in l.width l.words) (l.rows - l.at) (pieces_of 59 (option_copied l.left)))
    ≡ rows_in l.width l.words l.rows l.bytes) × (l.table.width ≡ l.width) × (l.table.words ≡ l.words) × (length l.table.rows ≡ l.rows)
