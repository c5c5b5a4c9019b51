use Rattle.std.proofs.Common.{◌≡◌, ◌<◌, ◌^◌, drop}
use Rattle.ygg_base.specs.Lexing.{value_after}
use Rattle.ygg_dimacs.proofs.numbers.value.Given as goal

-- the number so far has as many digits, and what is left completes it
abbrev pub invariant-loop-digit : goal.invariant-loop-digit
invariant-loop-digit l = (l.number < 10 ^ l.digit-index) × (value_after l.number (drop l.digit-index l.digits) ≡ value_after 0 l.digits)
