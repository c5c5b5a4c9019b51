use Rattle.std.proofs.Common.{arith}
use Rattle.ygg_base.specs.Outside.{Rose}
use Rattle.ygg_cnf.specs.Lines.{clause_line}
use Rattle.ygg_dimacs.specs.Printing.{clause_lines}
use Rattle.ygg_cnf.proofs.Flowing.{line_short, line_on, rose_since}
use Rattle.ygg_dimacs.proofs.putting.pass_clauses.Goals as goal

pub returns-in-Err-clause-told : goal.returns-in-Err-clause-told
returns-in-Err-clause-told g c =
    line_short clause_line (g.K.Sink.taken c.args.sink.now) (g.K.Sink.taken c.loop-clause.sink) (g.K.Sink.taken c.pass_clause.new.sink) c.args.kept.now
    c.loop-clause.kept c.pass_clause.new.kept c.pass_clause.new.kept (clause_lines c.args.clauses.now)
    (Rose (g.K.Sink.faults c.loop-clause.sink) (g.K.Sink.faults c.pass_clause.new.sink))
    (Rose (g.K.Sink.faults c.args.sink.now) (g.K.Sink.faults c.pass_clause.new.sink))
    c.args.clauses.now c.loop-clause.clause-index c.clause-item.result c.in-Err.status c.loop-clause-test.true c.clause-item.is c.loop-clause.invariant.flows
    c.in-Err.ensures.told
    (rose_since (g.K.Sink.faults c.args.sink.now) (g.K.Sink.faults c.loop-clause.sink) (g.K.Sink.faults c.pass_clause.new.sink) c.loop-clause.invariant.later)

pub loop-clause-preserved : goal.loop-clause-preserved
loop-clause-preserved g c = record {
  flows = line_on clause_line c.args.clauses.now c.loop-clause.clause-index c.clause-item.result c.loop-clause-test.true c.clause-item.is
      c.loop-clause.invariant.flows c.in-Ok.ensures.told;
  later = omega (arith, c.loop-clause.invariant.later, c.pass_clause.ensures.later);
}
