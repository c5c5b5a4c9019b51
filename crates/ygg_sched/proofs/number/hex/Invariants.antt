use Rattle.std.proofs.Common.{◌≡◌, ◌<◌, ◌^◌, drop}
use Rattle.ygg_sched.specs.Numbers.{hex_after}
use Rattle.ygg_sched.proofs.number.hex.Given as goal

-- the number so far has as many digits, and what is left completes it
abbrev pub invariant-loop-byte : goal.invariant-loop-byte
invariant-loop-byte l = (l.number < 16 ^ l.byte-index) × (hex_after l.number (drop l.byte-index l.bytes) ≡ hex_after 0 l.bytes)
