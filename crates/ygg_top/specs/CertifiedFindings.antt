-- What is printed of what was found of obligations, where not all were found to hold.
use Rattle.std.specs.Prelude.{◌≡◌, ℕ, ◌+◌, Bool, true, false, ◌||◌, List, [], ◌∷◌, ◌++◌, map, Option, Some, None}
use Rattle.std.specs.List.{flat_map}
use Rattle.ygg_base.specs.declared.status.Status.{Status}
use Rattle.ygg_base.specs.declared.status.Status.TheVariants.{Refuted, Undecided}
use Rattle.ygg_syntax.specs.declared.tree.File.{File}
use Rattle.ygg_top.specs.ygg_rules.declared.rule.RuleKind.{RuleKind}
use Rattle.ygg_certify.specs.ygg_bank.declared.env.Given.{Given}
use Rattle.ygg_certify.specs.ygg_report.Lines.{undecided_line, verdict_line}
use Rattle.ygg_certify.specs.ygg_report.declared.verdict.Verdict.{Verdict}
use Rattle.ygg_certify.specs.ygg_report.declared.verdict.Verdict.TheVariants as reports
use Rattle.ygg_certify.specs.declared.finding.Outcome.{Outcome}
use Rattle.ygg_certify.specs.declared.finding.Outcome.TheVariants.{Holds, Fails, Spent}
use Rattle.ygg_certify.specs.declared.finding.Finding.{Finding}
use Rattle.ygg_top.specs.declared.verdict.Refutation.{Refutation}
use Rattle.ygg_top.specs.declared.verdict.Summary.{Summary}
use Rattle.ygg_top.specs.Findings.{IsEnd, IsRefuting}

-- what is reported of what was found within a budget
abbrev pub reported_of : ℕ → Outcome → Verdict
reported_of budget (Holds log) = reports.Holds
reported_of budget (Fails env) = reports.Fails
reported_of budget Spent = reports.Spent budget

-- the environment that was found, where the term is 0 in one
abbrev pub env_of : Outcome → Option (List Given)
env_of (Holds log) = None
env_of (Fails env) = Some env
env_of Spent = None

-- whether the budget was spent
abbrev pub has_spent : Outcome → Bool
has_spent (Holds log) = false
has_spent (Fails env) = false
has_spent Spent = true

-- the line of what was found within a budget
abbrev pub line_of : ℕ → Finding → List ℕ
line_of budget f = verdict_line (reported_of budget f.outcome) f.name

-- the lines of what was found, in order
abbrev pub lines_found : ℕ → List Finding → List ℕ
lines_found budget = flat_map (line_of budget)

-- the names under which it was found
abbrev pub names_found : List Finding → List (List ℕ)
names_found = map (λ (f : Finding). f.name)

-- the refutation by an environment at a place
abbrev pub refutation_at : ℕ → List Given → Refutation
refutation_at place env = record { place = place; env = env }

-- the refutation at a place, where there is an environment, or else the other
abbrev pub refutation_or : Option (List Given) → ℕ → Option Refutation → Option Refutation
refutation_or (Some env) place other = Some (refutation_at place env)
refutation_or None place other = other

-- the first refutation of what was found from a place on
abbrev pub refutation_from : ℕ → List Finding → Option Refutation
refutation_from place [] = None
refutation_from place (f ∷ fs) = refutation_or (env_of f.outcome) place (refutation_from (place + 1) fs)

-- whether the budget was spent on some term
abbrev pub any_spent_on : List Finding → Bool
any_spent_on [] = false
any_spent_on (f ∷ fs) = has_spent f.outcome || any_spent_on fs

-- what was found in short
abbrev pub summary_of : List Finding → Summary
summary_of fs = record { refuted = refutation_from 0 fs; spent = any_spent_on fs }

-- what is printed last of an obligation that an environment refutes, with the status
abbrev pub IsRefutedBy : List RuleKind → File → List Finding → (place : ℕ) → List Given → Status × List ℕ → Type 0
IsRefutedBy kinds f fs place env end = (end.0 ≡ Refuted) × IsRefuting kinds f (names_found fs) (refutation_at place env) end.1

-- what is printed last where none fails, with the status
abbrev pub IsUndecided : Status × List ℕ → Type 0
IsUndecided end = (end.0 ≡ Undecided) × (end.1 ≡ undecided_line)

-- the status and what is printed last by what was found
abbrev pub EndsOf : List RuleKind → File → List Finding → Status × List ℕ → Type 0
EndsOf kinds f fs end = IsEnd kinds f (names_found fs) (summary_of fs) end.0 end.1

-- the text with what is printed last, and the status of that
abbrev pub IsWithLast : List ℕ → Status × List ℕ → Status × List ℕ → Type 0
IsWithLast text last end = (end.0 ≡ last.0) × (end.1 ≡ text ++ last.1)
