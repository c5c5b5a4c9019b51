use Rattle.std.proofs.Common.{◌≡◌, drop}
use Rattle.ygg_top.specs.CertifiedFindings.{refutation_from}
use Rattle.ygg_top.proofs.certified_finding.first_failing.Given as goal

-- no obligation so far was found to fail
abbrev pub invariant-loop-finding : goal.invariant-loop-finding
invariant-loop-finding l = record {
  place : l.place ≡ l.finding-index;
  rest : refutation_from 0 l.findings ≡ refutation_from l.finding-index (drop l.finding-index l.findings);
}
