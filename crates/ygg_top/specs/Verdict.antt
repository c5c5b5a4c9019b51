-- What is found of a file: a verdict on each of its obligations, and what they come to.
use Rattle.std.specs.Prelude.{◌≡◌, ℕ, ◌+◌, ◌*◌, Bool, true, false, ◌||◌, if◌then◌else◌, List, [], ◌∷◌, ◌++◌, map, length, slice_get, Some}
use Rattle.ygg_base.specs.declared.status.Status.{Status}
use Rattle.ygg_base.specs.declared.status.Status.TheVariants.{Done, Refuted, Undecided}
use Rattle.ygg_syntax.specs.declared.tree.File.{File}
use Rattle.ygg_oblige_reading.specs.ygg_rules.declared.rule.RuleKind.{RuleKind}
use Rattle.ygg_yard.specs.ygg_meaning.Environments.{Env}
use Rattle.ygg_yard.specs.ygg_meaning.Machine.{State}
use Rattle.ygg_yard.specs.ygg_meaning.Stack.{BottomOf, FileRefines}
use Rattle.ygg_yard.specs.ygg_meaning.History.{Entry, History, Allows}
use Rattle.ygg_yard.specs.ygg_meaning.Claims.{Claim, ClaimHolds, ClaimViolated, claims_of}
use Rattle.ygg_certify.specs.ygg_bank.declared.node.Id.{Id}
use Rattle.ygg_certify.specs.ygg_bank.declared.node.Node.{Node}
use Rattle.ygg_certify.specs.ygg_cnf.Logs.{SpentLog}
use Rattle.ygg_certify.specs.ygg_cnf.declared.log.Step.{Step}
use Rattle.ygg_certify.specs.ygg_gates.Groups.{translated}
use Rattle.ygg_certify.specs.ygg_oblige_laws.Terms.{file_made}
use Rattle.ygg_certify.specs.ygg_oblige_laws.Meaning.{claim_name}
use Rattle.ygg_top.specs.ygg_report.Lines.{verdict_line, verified_line, refuted_line, undecided_line, demo_line}
use Rattle.ygg_top.specs.ygg_report.Tallies.{tally_of}
use Rattle.ygg_top.specs.ygg_report.declared.verdict.Tally.{Tally}
use Rattle.ygg_top.specs.ygg_report.declared.verdict.Verdict as report
use Rattle.ygg_top.specs.ygg_report.declared.verdict.Verdict.TheVariants as reports
use Rattle.ygg_oblige_reading.specs.ygg_sched.declared.schedule.Schedule.{Schedule}
use Rattle.ygg_oblige_reading.specs.ygg_sched.Printing.{text_of}
use Rattle.ygg_sched_names.specs.ygg_replay.Shown.{meant}
use Rattle.ygg_yard.specs.Laws.{HoldsAll}
use Rattle.ygg_top.specs.ygg_top_command.Words.{usual_budget}
use Rattle.ygg_top.specs.Showing.{IsShownAgain}

-- a verdict on an obligation
pub data Verdict : Type 0 where
  -- no schedule violates it
  Holds : Verdict
  -- the schedule that is meant by this one, as texts have it, violates it
  Fails : (schedule : Schedule) → Verdict
  -- the whole budget was spent on the clauses of its term
  Spent : Verdict

-- what is reported of a verdict that is found within a budget
abbrev pub reported : ℕ → Verdict → report.Verdict
reported budget Holds = reports.Holds
reported budget (Fails schedule) = reports.Fails
reported budget Spent = reports.Spent budget

-- whether the obligation fails
abbrev pub is_failed : Verdict → Bool
is_failed Holds = false
is_failed (Fails schedule) = true
is_failed Spent = false

-- whether the budget was spent on it
abbrev pub is_spent : Verdict → Bool
is_spent Holds = false
is_spent (Fails schedule) = false
is_spent Spent = true

-- a log over the clauses of a term has exactly as many clauses as the budget says, each of which teaches
abbrev pub SpendsOn : List Node → Id → ℕ → Type 0
SpendsOn nodes term budget = (log : List Step) × SpentLog (translated nodes term).clauses log budget

-- a schedule, as texts have it, has the obligation's name, and what it means violates the obligation
pub record IsViolation (c : Claim) (x : Schedule) : Type 0 where
  pub name : x.name ≡ claim_name c
  pub violated : ClaimViolated c (meant c x)

-- a verdict on an obligation, whose term this is, is true for a budget
abbrev pub IsTrue : List Node → ℕ → Claim → Id → Verdict → Type 0
IsTrue nodes budget c term Holds = ClaimHolds c
IsTrue nodes budget c term (Fails schedule) = IsViolation c schedule
IsTrue nodes budget c term Spent = SpendsOn nodes term budget

-- a true verdict for each obligation and its term, in order
abbrev pub AreTrue : List Node → ℕ → List Claim → List Id → List Verdict → Type 0
AreTrue nodes budget [] [] [] = Unit {0}
AreTrue nodes budget (c ∷ cs) (t ∷ ts) (v ∷ vs) = IsTrue nodes budget c t v × AreTrue nodes budget cs ts vs
AreTrue nodes budget _ _ _ = ⊥

-- whether some obligation fails
abbrev pub any_failed : List Verdict → Bool
any_failed [] = false
any_failed (v ∷ vs) = is_failed v || any_failed vs

-- whether the budget was spent on some obligation
abbrev pub any_spent : List Verdict → Bool
any_spent [] = false
any_spent (v ∷ vs) = is_spent v || any_spent vs

-- the lines of the verdicts, in order
abbrev pub lines_of : ℕ → List Claim → List Verdict → List ℕ
lines_of budget (c ∷ cs) (v ∷ vs) = verdict_line (reported budget v) (claim_name c) ++ lines_of budget cs vs
lines_of budget _ _ = []

-- what is printed of an obligation of this name that a schedule of the file violates: its line, and the schedule's text
abbrev pub refutation : File → List ℕ → Schedule → List ℕ
refutation f name schedule = refuted_line name ++ text_of f schedule

-- what is printed of the first obligation that fails
abbrev pub first_refuted : File → List Claim → List Verdict → List ℕ
first_refuted f (c ∷ cs) (Fails schedule ∷ vs) = refutation f (claim_name c) schedule
first_refuted f (c ∷ cs) (Holds ∷ vs) = first_refuted f cs vs
first_refuted f (c ∷ cs) (Spent ∷ vs) = first_refuted f cs vs
first_refuted f _ _ = []

-- the status by verdicts: refuted where one is that an obligation fails, else undecided where one is spent, else done
abbrev pub status_by : List Verdict → Status
status_by vs = if any_failed vs then Refuted else if any_spent vs then Undecided else Done

-- what is printed after the lines of the verdicts
abbrev pub last_lines : File → List Claim → List Verdict → List ℕ
last_lines f cs vs = if any_failed vs then first_refuted f cs vs else if any_spent vs then undecided_line else verified_line (length cs)

-- the text by verdicts on obligations of the file: a line for each, and what is printed after them
abbrev pub text_by : File → ℕ → List Claim → List Verdict → List ℕ
text_by f budget cs vs = lines_of budget cs vs ++ last_lines f cs vs

-- the line of one of these obligations of the file, and the text of a schedule that has its name and violates it, which `replay` shows of the file
pub record IsRefutation (f : File) (cs : List Claim) (text : List ℕ) : Type 0 where
  pub place : ℕ
  pub claim : Claim
  pub there : slice_get cs place ≡ Some claim
  pub schedule : Schedule
  pub violating : IsViolation claim schedule
  pub text_is : text ≡ refutation f (claim_name claim) schedule
  pub shown : IsShownAgain f (claim_name claim) (text_of f schedule)

-- the topmost specification allows every history of the file's bottom implementation on its disk
abbrev pub HistoriesAllowed : File → Type 0
HistoriesAllowed file = (entries : List Entry) (to : State Env) → History (BottomOf file) entries to → Allows file entries to

-- there is one list of verdicts on the file, true for the budget, that determines the status and the text
pub record ByVerdicts (kinds : List RuleKind) (f : File) (budget : ℕ) (status : Status) (text : List ℕ) : Type 0 where
  pub verdicts : List Verdict
  pub are_true : AreTrue (file_made kinds f []).nodes budget (claims_of f) (file_made kinds f []).value verdicts
  pub status_is : status ≡ status_by verdicts
  pub text_is : text ≡ text_by f budget (claims_of f) verdicts

-- How `verify` ends for a layer file within a budget, and its text: there is one list of verdicts, true for the budget, that determines both. Where the
-- status is that all was done, so that every verdict is that an obligation holds, each layer refines its specification, and every history is allowed. Where
-- it is that of a refutation, what is printed last is the name of an obligation that fails and a schedule that violates it, as `replay` shows.
pub record Verified (kinds : List RuleKind) (f : File) (budget : ℕ) (status : Status) (text : List ℕ) : Type 0 where
  pub by : ByVerdicts kinds f budget status text
  pub refuted : status ≡ Refuted → IsRefutation f (claims_of f) (last_lines f (claims_of f) by.verdicts)
  pub refines : status ≡ Done → FileRefines f
  pub allowed : status ≡ Done → HistoriesAllowed f

-- the counts of verdicts on the file that `demo` makes for a number: it has two obligations for each operation and three more, so many hold, none fails, and
-- so many are spent
abbrev pub demo_tally : (number holds spent : ℕ) → Tally
demo_tally number holds spent = record { obligations = 2 * number + 3; holds = holds; fails = 0; spent = spent }

-- How `demo` ends for the layer file that is made for a number, and its line. All obligations of the file hold, so each layer refines its specification, and
-- every history is allowed. There is one list of verdicts, true for the usual budget, none of which is that an obligation fails: the status and the line say
-- how many of them are that one holds, and of how many the budget was spent.
pub record Counted (kinds : List RuleKind) (number : ℕ) (f : File) (status : Status) (text : List ℕ) : Type 0 where
  pub hold : HoldsAll number f
  pub refines : FileRefines f
  pub allowed : HistoriesAllowed f
  pub verdicts : List Verdict
  pub are_true : AreTrue (file_made kinds f []).nodes usual_budget (claims_of f) (file_made kinds f []).value verdicts
  pub holds : ℕ
  pub spent : ℕ
  pub each : holds + spent ≡ 2 * number + 3
  pub tally_is : tally_of (map (reported usual_budget) verdicts) ≡ demo_tally number holds spent
  pub status_is : status ≡ (if any_spent verdicts then Undecided else Done)
  pub text_is : text ≡ demo_line number (demo_tally number holds spent)
