use Rattle.std.proofs.Common.{◌++◌, ◌≤◌, drop}
use Rattle.ygg_cnf.specs.Pieces.{Flows}
use Rattle.ygg_cnf.specs.Pieces.{log_lines}
use Rattle.ygg_cnf.proofs.pieces.pass_log.Given as goal

-- what is put and kept, and the lines that are still to come
abbrev pub invariant-loop-step : goal.invariant-loop-step
invariant-loop-step g l = record {
  flows : Flows (g.K.Sink.taken l.initial.sink) l.initial.kept (g.K.Sink.taken l.sink) (l.kept ++ log_lines (drop l.step-index l.log)) (log_lines l.log);
  later : g.K.Sink.faults l.initial.sink ≤ g.K.Sink.faults l.sink;
}
