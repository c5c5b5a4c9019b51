use Rattle.std.proofs.Common.{take}
use Rattle.ygg_cnf.specs.Literals.{AreApart}
use Rattle.ygg_cnf.proofs.lit.are_apart.Given as goal

abbrev pub invariant-loop-place : goal.invariant-loop-place
invariant-loop-place l = AreApart (take l.place l.lits)
