use Rattle.std.proofs.Common.{◌≡◌, ◌++◌, drop}
use Rattle.ygg_syntax.proofs.copy.+blocks.Given as goal

-- the copies so far and what is left are all
abbrev pub invariant-statements-loop-one : goal.invariant-statements-loop-one
invariant-statements-loop-one l = l.copies ++ drop l.one-index l.statements ≡ l.statements
