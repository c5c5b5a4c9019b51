use Rattle.std.proofs.Common.{◌≡◌, ◌++◌, drop}
use Rattle.ygg_syntax.proofs.copy.+expression.Given as goal

-- the copies so far and what is left are all
abbrev pub invariant-expressions-loop-e : goal.invariant-expressions-loop-e
invariant-expressions-loop-e l = l.copies ++ drop l.e-index l.expressions ≡ l.expressions
