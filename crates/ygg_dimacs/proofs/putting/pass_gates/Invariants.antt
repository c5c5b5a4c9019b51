use Rattle.std.proofs.Common.{◌++◌, ◌+◌, ◌≤◌, drop}
use Rattle.ygg_cnf.specs.Pieces.{Flows}
use Rattle.ygg_dimacs.specs.Printing.{clause_lines}
use Rattle.ygg_blast.specs.ygg_gates.Clauses.{clauses_from}
use Rattle.ygg_dimacs.proofs.putting.pass_gates.Given as goal

-- what is put and kept, and the lines that are still to come
abbrev pub invariant-loop-place : goal.invariant-loop-place
invariant-loop-place g l = record {
  flows : Flows (g.K.Sink.taken l.initial.sink) l.initial.kept (g.K.Sink.taken l.sink)
      (l.kept ++ clause_lines (clauses_from (l.place + 2) (drop l.place l.gates))) (clause_lines (clauses_from 2 l.gates));
  later : g.K.Sink.faults l.initial.sink ≤ g.K.Sink.faults l.sink;
}
