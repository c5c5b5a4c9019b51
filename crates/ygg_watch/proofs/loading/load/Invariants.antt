use Rattle.std.proofs.Common.{◌≡◌, take, []}
use Rattle.ygg_watch.proofs.loading.load.Given as goal

abbrev pub invariant-loop-clause : goal.invariant-loop-clause
invariant-loop-clause g l = record {
  held : (g.P.Propagate.state l.propagation).clauses ≡ take l.clause-index l.clause-items;
  empty : (g.P.Propagate.state l.propagation).trail ≡ [];
  closed : (g.P.Propagate.state l.propagation).level ≡ 0;
  variable_count : (g.P.Propagate.state l.propagation).variable_count ≡ (g.P.Propagate.state l.initial.propagation).variable_count;
}
