use Rattle.ygg_solver.proofs.LeftLemmas.{left}
use Rattle.std.proofs.Common.{◌≡◌}
use Rattle.ygg_solver.specs.Kept.{IsReady}
use Rattle.ygg_solver.proofs.run.to_conflict.Given as goal

abbrev pub invariant-loop-id : goal.invariant-loop-id
invariant-loop-id g l = record {
  variable_count : l.variable_count ≡ (g.P.Propagate.state l.propagation).variable_count;
  ready : IsReady (g.P.Propagate.state l.propagation);
  kept : (g.P.Propagate.state l.propagation).variable_count ≡ (g.P.Propagate.state l.initial.propagation).variable_count;
  same : (g.P.Propagate.state l.propagation).clauses ≡ (g.P.Propagate.state l.initial.propagation).clauses;
}

abbrev pub decreases-loop-id : goal.decreases-loop-id
decreases-loop-id g l = left (g.P.Propagate.state l.propagation)
