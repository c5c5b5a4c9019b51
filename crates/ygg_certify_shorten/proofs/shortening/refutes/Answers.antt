use Rattle.ygg_certify_shorten.proofs.Judged.{more_taken, all_taken}
use Rattle.ygg_certify_shorten.proofs.shortening.refutes.Goals as goal

pub loop-step-preserved : goal.loop-step-preserved
loop-step-preserved c =
    more_taken c.args.clauses.now c.loop-step.checker c.adds.new.checker c.args.log.now c.loop-step.step-index c.step-item.result c.loop-step.is_empty
    c.adds_empty-is_empty.result c.loop-step-test.true c.step-item.is c.loop-step.invariant (c.in_ok-adds.ensures.derives c.if-not-branch.false)
    (c.in_ok-adds.ensures.held c.if-not-branch.false) c.adds_empty-is_empty.ensures

pub returns : goal.returns
returns c =
    all_taken c.args.clauses.now c.loop-step.checker c.args.log.now c.loop-step.step-index c.loop-step.is_empty c.loop-step-test.false c.loop-step.invariant
