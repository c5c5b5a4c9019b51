use Rattle.std.proofs.Common.{◌≡◌, ◌++◌, drop}
use Rattle.ygg_cnf.specs.Lines.{literal_words}
use Rattle.ygg_cnf.proofs.lines.put_literals.Given as goal

-- what is there, and what is still to come
abbrev pub invariant-loop-literal : goal.invariant-loop-literal
invariant-loop-literal l = l.out ++ literal_words (drop l.literal-index l.literals) ≡ l.initial.out ++ literal_words l.literals
