use Rattle.std.proofs.Common.{◌≡◌, drop}
use Rattle.ygg_sched.specs.Numbers.{picks_in}
use Rattle.ygg_sched.proofs.Pieces.{with_front}
use Rattle.ygg_sched.proofs.bits.picks_in.Given as goal

-- the picks so far, and then those of what is left
abbrev pub invariant-loop-byte : goal.invariant-loop-byte
invariant-loop-byte l = with_front l.picks (picks_in (drop l.byte-index l.bytes)) ≡ picks_in l.bytes
