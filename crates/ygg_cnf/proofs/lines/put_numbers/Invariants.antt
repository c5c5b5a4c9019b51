use Rattle.std.proofs.Common.{◌≡◌, ◌++◌, drop}
use Rattle.ygg_cnf.specs.Lines.{number_words}
use Rattle.ygg_cnf.proofs.lines.put_numbers.Given as goal

-- what is there, and what is still to come
abbrev pub invariant-loop-number : goal.invariant-loop-number
invariant-loop-number l = l.out ++ number_words (drop l.number-index l.numbers) ≡ l.initial.out ++ number_words l.numbers
