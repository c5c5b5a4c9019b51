use Rattle.std.proofs.Common.{take}
use Rattle.std.specs.Prelude.{All}
use Rattle.ygg_cert.specs.ygg_cnf.Steps.{IsLiteral}
use Rattle.ygg_certify.proofs.literals.clause_may.Given as goal

abbrev pub invariant-loop-lit : goal.invariant-loop-lit
invariant-loop-lit l = All IsLiteral (take l.lit-index l.clause)
