use Rattle.std.proofs.Common.{List, ℕ, ◌++◌, ap, ◌∙◌}
use Rattle.ygg_certify.specs.ygg_report.Lines.{verdict_line}
use Rattle.ygg_certify.specs.ygg_report.declared.verdict.Verdict.{Verdict}
use Rattle.ygg_top.proofs.Failing.{lines_all}
use Rattle.ygg_top.proofs.Opened.{lines_from}
use Rattle.ygg_top.proofs.certified_finding.lines.Goals as goal

pub loop-finding-preserved : goal.loop-finding-preserved
loop-finding-preserved c =
    lines_from c.args.budget c.args.findings.now c.loop-finding.finding-index c.finding-item.result c.loop-finding.text c.extend_from_slice.new.self
    c.in_ok-one.one c.loop-finding-test.true c.finding-item.is c.loop-finding.invariant
    (c.in_ok-one.ensures ∙ ap (λ (v : Verdict). verdict_line v c.finding-item.result.name) c.reported-verdict.ensures)
    (c.in_ok-extend_from_slice.ensures.ok ∙ ap (λ (ls : List ℕ). c.loop-finding.text ++ ls) c.as_slice.ensures)

pub returns : goal.returns
returns c = lines_all c.args.budget c.args.findings.now c.loop-finding.finding-index c.loop-finding.text c.loop-finding-test.false c.loop-finding.invariant
