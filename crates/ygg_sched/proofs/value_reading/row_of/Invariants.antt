use Rattle.std.proofs.Common.{◌≡◌, ◌-◌, take, length}
use Rattle.std.specs.Option.{option_copied}
use Rattle.ygg_sched.specs.Numbers.{number_in}
use Rattle.ygg_sched.specs.Values.{exactly, row_in}
use Rattle.ygg_sched.proofs.Cutting.{pieces_of}
use Rattle.ygg_sched.proofs.Pieces.{with_front}
use Rattle.ygg_sched.proofs.value_reading.row_of.Given as goal

-- the numbers so far, and then those of the pieces that are left
abbrev pub invariant-loop-at : goal.invariant-loop-at
invariant-loop-at l =
    (with_front (take l.at l.row.words) (exactly (number_in l.width) (l.words - l.at) (pieces_of 44 (option_copied l.left))) ≡ row_in l.width l.words l.bytes)
    × (l.row.width ≡ l.width) × (length l.row.words ≡ l.words)
