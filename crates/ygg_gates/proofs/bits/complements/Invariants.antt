use Rattle.std.proofs.Common.{◌≡◌, map, take}
use Rattle.ygg_cnf.specs.Literals.{complement}
use Rattle.ygg_gates.proofs.bits.complements.Given as goal

abbrev pub invariant-loop-x : goal.invariant-loop-x
invariant-loop-x l = l.bits ≡ map complement (take l.x-index l.xs)
