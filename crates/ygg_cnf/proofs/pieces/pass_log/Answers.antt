use Rattle.std.proofs.Common.{arith}
use Rattle.ygg_base.specs.Outside.{Rose}
use Rattle.ygg_cnf.specs.Lines.{step_line}
use Rattle.ygg_cnf.specs.Pieces.{log_lines}
use Rattle.ygg_cnf.proofs.Flowing.{line_short, line_on, rose_since}
use Rattle.ygg_cnf.proofs.pieces.pass_log.Goals as goal

pub returns-in-Err-clause-told : goal.returns-in-Err-clause-told
returns-in-Err-clause-told g c =
    line_short step_line (g.K.Sink.taken c.args.sink.now) (g.K.Sink.taken c.loop-step.sink) (g.K.Sink.taken c.pass_step.new.sink) c.args.kept.now
    c.loop-step.kept c.pass_step.new.kept c.pass_step.new.kept (log_lines c.args.log.now)
    (Rose (g.K.Sink.faults c.loop-step.sink) (g.K.Sink.faults c.pass_step.new.sink))
    (Rose (g.K.Sink.faults c.args.sink.now) (g.K.Sink.faults c.pass_step.new.sink))
    c.args.log.now c.loop-step.step-index c.step-item.result c.in-Err.status c.loop-step-test.true c.step-item.is c.loop-step.invariant.flows
    c.in-Err.ensures.told
    (rose_since (g.K.Sink.faults c.args.sink.now) (g.K.Sink.faults c.loop-step.sink) (g.K.Sink.faults c.pass_step.new.sink) c.loop-step.invariant.later)

pub loop-step-preserved : goal.loop-step-preserved
loop-step-preserved g c = record {
  flows = line_on step_line c.args.log.now c.loop-step.step-index c.step-item.result c.loop-step-test.true c.step-item.is c.loop-step.invariant.flows
      c.in-Ok.ensures.told;
  later = omega (arith, c.loop-step.invariant.later, c.pass_step.ensures.later);
}
