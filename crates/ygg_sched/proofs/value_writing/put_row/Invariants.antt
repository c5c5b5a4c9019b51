use Rattle.std.proofs.Common.{◌≡◌, ◌++◌, take}
use Rattle.ygg_sched.specs.Values.{row_text}
use Rattle.ygg_sched.proofs.value_writing.put_row.Given as goal

-- the words so far
abbrev pub invariant-loop-at : goal.invariant-loop-at
invariant-loop-at l = l.out ≡ l.initial.out ++ row_text l.row.width (take l.at l.row.words)
