use Rattle.ygg_cert.proofs.Logged.{begin_step, step_goes_on}
use Rattle.ygg_cert.proofs.log.LogReading.read.Goals as goal

pub returns-else-byte-eq101 : goal.returns-else-byte-eq101
returns-else-byte-eq101 c before was =
    c.read_step.ensures before (begin_step c.args.self.now before c.args.byte was c.in-Begin.is c.if-byte-eq101.false)

pub returns-in-Step : goal.returns-in-Step
returns-in-Step c before was = c.read_step-in-Step.ensures before (step_goes_on c.args.self.now before c.args.byte was c.in-Step.is)
