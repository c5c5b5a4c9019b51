use Rattle.std.proofs.Common.{arith}
use Rattle.ygg_base.specs.Outside.{Rose}
use Rattle.ygg_solver.specs.ygg_cnf.Literals.{truth_of}
use Rattle.ygg_cnf.proofs.Flowing.{rose_since}
use Rattle.ygg_dimacs.proofs.Values.{value_short, value_on}
use Rattle.ygg_dimacs.proofs.pieces.pass_values.Goals as goal

pub returns-in-Err-clause-told : goal.returns-in-Err-clause-told
returns-in-Err-clause-told g c =
    value_short (g.K.Sink.taken c.args.sink.now) (g.K.Sink.taken c.loop-before.sink) (g.K.Sink.taken c.pass_value.new.sink) c.args.kept.now
    c.loop-before.kept c.pass_value.new.kept c.pass_value.new.kept
    (Rose (g.K.Sink.faults c.loop-before.sink) (g.K.Sink.faults c.pass_value.new.sink))
    (Rose (g.K.Sink.faults c.args.sink.now) (g.K.Sink.faults c.pass_value.new.sink))
    (truth_of c.args.assignment.now) c.loop-before.before c.args.variables c.in-Err.status c.loop-before-test.true c.loop-before.invariant.flows
    c.in-Err.ensures.told
    (rose_since (g.K.Sink.faults c.args.sink.now) (g.K.Sink.faults c.loop-before.sink) (g.K.Sink.faults c.pass_value.new.sink) c.loop-before.invariant.later)

pub loop-before-preserved : goal.loop-before-preserved
loop-before-preserved g c = record {
  flows = value_on (g.K.Sink.taken c.args.sink.now) (g.K.Sink.taken c.loop-before.sink) (g.K.Sink.taken c.pass_value.new.sink) c.args.kept.now
      c.loop-before.kept c.pass_value.new.kept (truth_of c.args.assignment.now) c.loop-before.before c.loop-before.invariant.flows c.in-Ok.ensures.told;
  later = omega (arith, c.loop-before.invariant.later, c.pass_value.ensures.later);
}
