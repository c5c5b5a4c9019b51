use Rattle.std.proofs.Common.{◌≡◌, ℕ, drop}
use Rattle.ygg_oblige_laws.specs.ygg_bank.Values.{inputs_of}
use Rattle.ygg_oblige_given.specs.Ones.{number_at}
use Rattle.ygg_oblige_given.proofs.numbers.numbers_of.Given as goal

-- the numbers that the items from this one on give
abbrev pub invariant-loop-i : goal.invariant-loop-i
invariant-loop-i l = (n : ℕ) → number_at l.numbers.items n ≡ inputs_of (drop l.i l.all) n
