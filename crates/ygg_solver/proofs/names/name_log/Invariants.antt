use Rattle.std.proofs.Common.{◌≡◌, All, map}
use Rattle.ygg_chain.specs.Places.{IsPlaced}
use Rattle.ygg_cnf.specs.Logs.{clause_of}
use Rattle.ygg_solver.specs.Names.{log_at}
use Rattle.ygg_solver.proofs.names.name_log.Given as goal

abbrev pub invariant-loop-step : goal.invariant-loop-step
invariant-loop-step l = record {
  named : l.named ≡ log_at l.variables l.yielded;
  placed : All (All (IsPlaced l.variables)) (map clause_of l.step-iterator.rest.items);
}
