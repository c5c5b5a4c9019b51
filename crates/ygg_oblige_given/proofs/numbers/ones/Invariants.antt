use Rattle.std.proofs.Common.{◌≡◌, map, take}
use Rattle.ygg_oblige_given.specs.Ones.{is_one}
use Rattle.ygg_oblige_given.proofs.numbers.ones.Given as goal

-- those so far
abbrev pub invariant-loop-number : goal.invariant-loop-number
invariant-loop-number l = l.bits.items ≡ map is_one (take l.number-index l.numbers)
