use Rattle.std.proofs.Common.{◌≡◌, ◌++◌, drop}
use Rattle.ygg_top.specs.CertifiedFindings.{lines_found}
use Rattle.ygg_top.proofs.certified_finding.lines.Given as goal

-- the lines so far, and those that are still to come
abbrev pub invariant-loop-finding : goal.invariant-loop-finding
invariant-loop-finding l = l.text ++ lines_found l.budget (drop l.finding-index l.findings) ≡ lines_found l.budget l.findings
