use Rattle.std.proofs.Common.{◌≡◌, ◌++◌, drop}
use Rattle.ygg_syntax.proofs.copy.items.Given as goal

-- the copies so far and what is left are all
abbrev pub invariant-loop-one : goal.invariant-loop-one
invariant-loop-one g l = l.copies ++ drop l.one-index l.all ≡ l.all
