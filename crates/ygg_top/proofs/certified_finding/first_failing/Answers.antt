use Rattle.ygg_top.proofs.Failing.{fails_here, fails_never}
use Rattle.ygg_top.proofs.certified_finding.first_failing.Goals as goal

pub returns-in-Some : goal.returns-in-Some
returns-in-Some c =
    fails_here c.args.findings.now c.loop-finding.finding-index c.loop-finding.invariant.rest c.finding-item.result c.loop-finding-test.true
    c.finding-item.is c.loop-finding.place c.in-Some.env.now c.loop-finding.invariant.place c.in-Some.ensures

pub returns : goal.returns
returns c = fails_never c.args.findings.now c.loop-finding.finding-index c.loop-finding.invariant.rest c.loop-finding-test.false
