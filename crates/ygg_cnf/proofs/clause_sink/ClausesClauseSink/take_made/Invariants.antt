use Rattle.std.proofs.Common.{◌≡◌, ◌++◌, map, take}
use Rattle.ygg_cnf.specs.Patterns.{made}
use Rattle.ygg_cnf.proofs.clause_sink.ClausesClauseSink.take_made.Given as goal

abbrev pub invariant-loop-pattern : goal.invariant-loop-pattern
invariant-loop-pattern l = l.self ≡ l.initial.self ++ map (made l.block) (take l.pattern-index l.patterns)
