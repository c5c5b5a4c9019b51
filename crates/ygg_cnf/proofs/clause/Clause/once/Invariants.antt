use Rattle.std.proofs.Common.{◌≡◌, drop}
use Rattle.ygg_cnf.specs.Literals.{once, with_literals}
use Rattle.ygg_cnf.proofs.clause.Clause.once.Given as goal

abbrev pub invariant-loop-lit : goal.invariant-loop-lit
invariant-loop-lit l = with_literals l.clause (drop l.lit-index l.lits) ≡ once l.lits
