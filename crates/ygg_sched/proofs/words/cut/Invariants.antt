use Rattle.std.proofs.Common.{◌≡◌, take, drop}
use Rattle.ygg_sched.specs.Words.{cut_at}
use Rattle.ygg_sched.proofs.Cutting.{before}
use Rattle.ygg_sched.proofs.words.cut.Given as goal

-- the bytes so far, and then what is left decides
abbrev pub invariant-loop-place : goal.invariant-loop-place
invariant-loop-place l = before (take l.place l.bytes) (cut_at l.mark (drop l.place l.bytes)) ≡ cut_at l.mark l.bytes
