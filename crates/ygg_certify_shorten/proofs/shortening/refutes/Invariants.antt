use Rattle.std.proofs.Common.{take}
use Rattle.ygg_certify_shorten.proofs.Judged.{AreTaken}
use Rattle.ygg_certify_shorten.proofs.shortening.refutes.Given as goal

abbrev pub invariant-loop-step : goal.invariant-loop-step
invariant-loop-step l = AreTaken l.clauses l.checker (take l.step-index l.log) l.is_empty
