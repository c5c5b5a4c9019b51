use Rattle.std.proofs.Common.{◌≡◌, take}
use Rattle.ygg_cnf.specs.Literals.{once}
use Rattle.ygg_cnf.proofs.clause.is_once.Given as goal

abbrev pub invariant-loop-place : goal.invariant-loop-place
invariant-loop-place l = once (take l.place l.lits) ≡ take l.place l.lits
