-- How many obligations each verdict was found of.
use Rattle.std.specs.Prelude.{Bool, true, false, List, length}
use Rattle.std.specs.List.{count_by}
use Rattle.ygg_report.specs.declared.verdict.Tally.{Tally}
use Rattle.ygg_report.specs.declared.verdict.Verdict.{Verdict}
use Rattle.ygg_report.specs.declared.verdict.Verdict.TheVariants.{Holds, Fails, Spent}

-- whether an obligation was found to hold
abbrev pub finds_held : Verdict → Bool
finds_held Holds = true
finds_held Fails = false
finds_held (Spent count) = false

-- whether an obligation was found to fail
abbrev pub finds_failed : Verdict → Bool
finds_failed Fails = true
finds_failed Holds = false
finds_failed (Spent count) = false

-- whether the budget was spent on an obligation
abbrev pub finds_spent : Verdict → Bool
finds_spent (Spent count) = true
finds_spent Holds = false
finds_spent Fails = false

-- how many verdicts there are, and how many of each kind
abbrev pub tally_of : List Verdict → Tally
tally_of verdicts = record {
  obligations = length verdicts;
  holds = count_by finds_held verdicts;
  fails = count_by finds_failed verdicts;
  spent = count_by finds_spent verdicts;
}
