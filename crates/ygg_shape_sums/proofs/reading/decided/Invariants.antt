use Rattle.std.proofs.Common.{◌≡◌, drop}
use Rattle.ygg_shape_sums.specs.Readings.{decided}
use Rattle.ygg_shape_sums.proofs.reading.decided.Given as goal

-- the facts still to come say what all facts say
abbrev pub invariant-loop-fact : goal.invariant-loop-fact
invariant-loop-fact l = decided l.bank (drop l.fact-index l.facts) l.test ≡ decided l.bank l.facts l.test
