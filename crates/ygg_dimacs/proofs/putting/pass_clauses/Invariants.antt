use Rattle.std.proofs.Common.{◌++◌, ◌≤◌, drop}
use Rattle.ygg_cnf.specs.Pieces.{Flows}
use Rattle.ygg_dimacs.specs.Printing.{clause_lines}
use Rattle.ygg_dimacs.proofs.putting.pass_clauses.Given as goal

-- what is put and kept, and the lines that are still to come
abbrev pub invariant-loop-clause : goal.invariant-loop-clause
invariant-loop-clause g l = record {
  flows : Flows (g.K.Sink.taken l.initial.sink) l.initial.kept (g.K.Sink.taken l.sink) (l.kept ++ clause_lines (drop l.clause-index l.clauses))
      (clause_lines l.clauses);
  later : g.K.Sink.faults l.initial.sink ≤ g.K.Sink.faults l.sink;
}
