use Rattle.std.proofs.Common.{subst}
use Rattle.ygg_certify.specs.declared.finding.Finding.{Finding}
use Rattle.ygg_certify.specs.Findings.{IsHeld}
use Rattle.ygg_certify.proofs.Firsts.{all_more, all_whole}
use Rattle.ygg_certify.proofs.finding.all_hold.Goals as goal

pub loop-finding-preserved : goal.loop-finding-preserved
loop-finding-preserved c =
    all_more IsHeld c.args.findings.now c.loop-finding.finding-index c.finding-item.result c.loop-finding-test.true c.loop-finding.invariant
    (subst (λ (f : Finding). IsHeld f) c.finding-item.is (c.holds.ensures.yes c.if-not-holds.false))

pub returns-clause-yes : goal.returns-clause-yes
returns-clause-yes c same = all_whole IsHeld c.args.findings.now c.loop-finding.finding-index c.loop-finding-test.false c.loop-finding.invariant
