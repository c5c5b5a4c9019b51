use Rattle.std.proofs.Common.{◌≡◌, take}
use Rattle.ygg_chain.proofs.checker.Checker.new.Given as goal

abbrev pub invariant-loop-clause : goal.invariant-loop-clause
invariant-loop-clause l = l.checker ≡ take l.clause-index l.clause-items
