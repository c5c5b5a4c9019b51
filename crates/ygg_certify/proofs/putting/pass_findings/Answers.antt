use Rattle.std.proofs.Common.{arith}
use Rattle.std.specs.List.{flat_map}
use Rattle.ygg_base.specs.Outside.{Rose}
use Rattle.ygg_cnf.proofs.Flowing.{line_short, line_on, rose_since}
use Rattle.ygg_certify.specs.Findings.{lines_of}
use Rattle.ygg_certify.proofs.putting.pass_findings.Goals as goal

pub returns-in-Err-clause-told : goal.returns-in-Err-clause-told
returns-in-Err-clause-told g c =
    line_short lines_of (g.K.Sink.taken c.args.sink.now) (g.K.Sink.taken c.loop-finding.sink) (g.K.Sink.taken c.pass_finding.new.sink) c.args.kept.now
    c.loop-finding.kept c.pass_finding.new.kept c.pass_finding.new.kept (flat_map lines_of c.args.findings.now)
    (Rose (g.K.Sink.faults c.loop-finding.sink) (g.K.Sink.faults c.pass_finding.new.sink))
    (Rose (g.K.Sink.faults c.args.sink.now) (g.K.Sink.faults c.pass_finding.new.sink)) c.args.findings.now c.loop-finding.finding-index c.finding-item.result
    c.in-Err.status c.loop-finding-test.true c.finding-item.is c.loop-finding.invariant.flows c.in-Err.ensures.told
    (rose_since (g.K.Sink.faults c.args.sink.now) (g.K.Sink.faults c.loop-finding.sink) (g.K.Sink.faults c.pass_finding.new.sink)
    c.loop-finding.invariant.later)

pub returns-in-Err-clause-later : goal.returns-in-Err-clause-later
returns-in-Err-clause-later g c = omega (arith, c.loop-finding.invariant.later, c.pass_finding.ensures.later)

pub loop-finding-preserved : goal.loop-finding-preserved
loop-finding-preserved g c = record {
  flows =
      line_on lines_of c.args.findings.now c.loop-finding.finding-index c.finding-item.result c.loop-finding-test.true c.finding-item.is
      c.loop-finding.invariant.flows c.in-Ok.ensures.told;
  later = omega (arith, c.loop-finding.invariant.later, c.pass_finding.ensures.later);
}
