use Rattle.std.proofs.Common.{take}
use Rattle.std.specs.Prelude.{All}
use Rattle.ygg_cert.specs.ygg_cnf.Steps.{IsLiteral}
use Rattle.ygg_certify.proofs.literals.literals_may.Given as goal

abbrev pub invariant-loop-clause : goal.invariant-loop-clause
invariant-loop-clause l = All (All IsLiteral) (take l.clause-index l.clauses)
