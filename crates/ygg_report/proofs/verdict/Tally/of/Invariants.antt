use Rattle.std.proofs.Common.{◌≡◌, take}
use Rattle.std.specs.List.{count_by}
use Rattle.ygg_report.specs.Tallies.{finds_held, finds_failed, finds_spent}
use Rattle.ygg_report.proofs.verdict.Tally.of.Given as goal

abbrev pub invariant-loop-verdict : goal.invariant-loop-verdict
invariant-loop-verdict l = record {
  holds : l.holds ≡ count_by finds_held (take l.verdict-index l.verdicts);
  fails : l.fails ≡ count_by finds_failed (take l.verdict-index l.verdicts);
  spent : l.spent ≡ count_by finds_spent (take l.verdict-index l.verdicts);
}
