use Rattle.std.proofs.Common.{◌≡◌, ◌++◌, map, take}
use Rattle.ygg_cnf.specs.Literals.{once}
use Rattle.ygg_cnf.specs.Patterns.{made}
use Rattle.ygg_cnf.proofs.clause_sink.put_made.Given as goal

abbrev pub invariant-loop-pattern : goal.invariant-loop-pattern
invariant-loop-pattern g l =
    g.S.ClauseSink.held l.sink ≡ g.S.ClauseSink.held l.initial.sink ++ map once (map (made l.block) (take l.pattern-index l.patterns))
