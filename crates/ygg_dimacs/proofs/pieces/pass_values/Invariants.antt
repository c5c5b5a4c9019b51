use Rattle.std.proofs.Common.{◌≤◌}
use Rattle.ygg_solver.specs.ygg_cnf.Literals.{truth_of}
use Rattle.ygg_cnf.specs.Lines.{literal_words}
use Rattle.ygg_cnf.specs.Pieces.{Flows}
use Rattle.ygg_dimacs.specs.Solved.{true_literals}
use Rattle.ygg_dimacs.proofs.pieces.pass_values.Given as goal

-- the literals so far are put and kept
abbrev pub invariant-loop-before : goal.invariant-loop-before
invariant-loop-before g l = record {
  flows : Flows (g.K.Sink.taken l.initial.sink) l.initial.kept (g.K.Sink.taken l.sink) l.kept (literal_words (true_literals (truth_of l.assignment) l.before));
  later : g.K.Sink.faults l.initial.sink ≤ g.K.Sink.faults l.sink;
}
