use Rattle.std.proofs.Common.{take}
use Rattle.std.specs.Prelude.{All}
use Rattle.ygg_certify.specs.Findings.{IsHeld}
use Rattle.ygg_certify.proofs.finding.all_hold.Given as goal

abbrev pub invariant-loop-finding : goal.invariant-loop-finding
invariant-loop-finding l = All IsHeld (take l.finding-index l.findings)
