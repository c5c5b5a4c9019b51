-- What is found of obligations by deciding their terms, one after another.
use Rattle.std.specs.Prelude.{
  ◌≡◌,
  ℕ,
  suc,
  Bool,
  false,
  ◌||◌,
  List,
  [],
  ◌∷◌,
  ◌++◌,
  length,
  slice_get,
  All,
  Option,
  Some,
  None,
  option_map,
  is_some,
  if◌then◌else◌,
  get_or,
  nat_lt,
  ◌<◌,
  ◌⊎◌,
  MatchOption,
  IfSome,
  ◌^◌,
}
use Rattle.ygg_base.specs.declared.status.Status.{Status}
use Rattle.ygg_base.specs.declared.status.Status.TheVariants as status
use Rattle.ygg_syntax.specs.declared.tree.File.{File}
use Rattle.ygg_oblige_reading.specs.ygg_rules.declared.rule.RuleKind.{RuleKind}
use Rattle.ygg_certify.specs.ygg_bank.declared.env.Given.{Given}
use Rattle.ygg_certify.specs.ygg_bank.Values.{inputs_of}
use Rattle.ygg_certify.specs.ygg_bank.declared.node.Id.{Id}
use Rattle.ygg_certify.specs.ygg_bank.declared.node.Node.{Node}
use Rattle.ygg_certify.specs.ygg_gates.Laws.{IsZeroIn}
use Rattle.ygg_certify.specs.ygg_decide.Deciding.{IsNeverZero}
use Rattle.ygg_top.specs.ygg_report.Lines.{verdict_line, undecided_line, verified_line}
use Rattle.ygg_top.specs.ygg_report.Tallies.{finds_spent}
use Rattle.ygg_top.specs.ygg_report.declared.verdict.Tally as counts
use Rattle.ygg_top.specs.ygg_report.declared.verdict.Verdict.{Verdict}
use Rattle.ygg_top.specs.ygg_report.declared.verdict.Verdict.TheVariants.{Holds, Fails, Spent}
use Rattle.ygg_certify.specs.ygg_bank.Nodes.{HasWidth, IsBank}
use Rattle.ygg_oblige_reading.specs.ygg_sched.declared.schedule.Schedule.{Schedule}
use Rattle.ygg_oblige_reading.specs.Obligations.{ArePlaced}
pub use Rattle.ygg_oblige_reading.specs.Obligations.{terms_in, names_in}
use Rattle.ygg_certify.specs.ygg_oblige_laws.Terms.{file_made}
pub use Rattle.ygg_oblige_reading.specs.Meant.{FitsTerms, Init}
use Rattle.ygg_plain.specs.Fitted.{IsFitted}
use Rattle.ygg_plain.specs.Plain.{ViolatesAsNamed}
pub use Rattle.ygg_oblige_reading.specs.Obligation.{Obligation}
use Rattle.ygg_top.specs.declared.verdict.Refutation.{Refutation}
use Rattle.ygg_top.specs.declared.verdict.Summary.{Summary}
use Rattle.ygg_top.specs.Verdict.{SpendsOn, refutation}
use Rattle.ygg_top.specs.ygg_report.Putting.{Adds, IsFront, IsPutSo}

-- what is found of a term within a budget is true
abbrev pub IsFound : List Node → Id → ℕ → Verdict → Type 0
IsFound nodes term budget Holds = IsNeverZero nodes term
IsFound nodes term budget Fails = (env : List Given) × IsZeroIn nodes term env
IsFound nodes term budget (Spent count) = (count ≡ budget) × SpendsOn nodes term budget

-- the environment that is kept with what is found of a term: one in which the term is 0, where it was found to fail, and else none
abbrev pub IsKept : List Node → Id → Verdict → Option (List Given) → Type 0
IsKept nodes term Fails (Some env) = IsZeroIn nodes term env
IsKept nodes term Fails None = ⊥
IsKept nodes term Holds env = env ≡ None
IsKept nodes term (Spent count) env = env ≡ None

-- something is found of each of the first terms
abbrev pub AreFound : List Node → ℕ → List Id → List Verdict → Type 0
AreFound nodes budget terms [] = Unit {0}
AreFound nodes budget (t ∷ ts) (v ∷ vs) = IsFound nodes t budget v × AreFound nodes budget ts vs
AreFound nodes budget [] (v ∷ vs) = ⊥

-- the lines of what is found of the first obligations of these names
abbrev pub found_lines : List (List ℕ) → List Verdict → List ℕ
found_lines (name ∷ names) (v ∷ vs) = verdict_line v name ++ found_lines names vs
found_lines _ _ = []

-- whether some verdict is of this kind
abbrev pub any_of : (Verdict → Bool) → List Verdict → Bool
any_of test [] = false
any_of test (v ∷ vs) = test v || any_of test vs

-- the place of the first obligation that was found to fail
abbrev pub first_failed : List Verdict → Option ℕ
first_failed [] = None
first_failed (Fails ∷ vs) = Some 0
first_failed (Holds ∷ vs) = option_map suc (first_failed vs)
first_failed (Spent count ∷ vs) = option_map suc (first_failed vs)

-- the term of the obligation at a place is 0 in the environment
pub record IsZeroAt (nodes : List Node) (all : List Obligation) (place : ℕ) (env : List Given) : Type 0 where
  pub obligation : Obligation
  pub there : slice_get all place ≡ Some obligation
  pub zero : IsZeroIn nodes obligation.term env

-- the refutation that is kept is one of the first obligation that was found to fail, if there is one
abbrev pub IsFirst : List Node → List Obligation → Option ℕ → Option Refutation → Type 0
IsFirst nodes all None None = Unit {0}
IsFirst nodes all (Some place) (Some r) = (r.place ≡ place) × IsZeroAt nodes all place r.env
IsFirst nodes all None (Some r) = ⊥
IsFirst nodes all (Some place) None = ⊥

-- the first refutation: the one that is known, or else the one at a place, where there is an environment
abbrev pub first_kept : Option Refutation → Option (List Given) → ℕ → Option Refutation
first_kept (Some r) env place = Some r
first_kept None (Some env) place = Some (record { place = place; env = env })
first_kept None None place = None

-- An obligation that was not reported: no memory was left, or the sink failed within the line of what was found.
abbrev pub IsUnreported : List Node → Id → List ℕ → ℕ → Option (List ℕ) → Option (List ℕ) → (SinkRose : Type 0) → Status → Type 0
IsUnreported nodes term name budget before now SinkRose status.NoMemory = now ≡ before
IsUnreported nodes term name budget before now SinkRose status.Fault =
    SinkRose × (v : Verdict) × IsFound nodes term budget v × (front : List ℕ) × IsFront front (verdict_line v name) × Adds before front now
IsUnreported nodes term name budget before now SinkRose other = ⊥

-- What was found of the first obligations of a list, all of whose lines were put.
pub record IsReported (nodes : List Node) (budget : ℕ) (all : List Obligation) (before now : Option (List ℕ)) (count : ℕ) (summary : Summary) : Type 0 where
  pub found : List Verdict
  pub counted : length found ≡ count
  pub are : AreFound nodes budget (terms_in all) found
  pub put : Adds before (found_lines (names_in all) found) now
  pub failed : IsFirst nodes all (first_failed found) summary.refuted
  pub spent : summary.spent ≡ any_of finds_spent found

-- The first obligations were reported, and the next was not.
pub record IsStopped (nodes : List Node) (budget : ℕ) (all : List Obligation) (before now : Option (List ℕ)) (SinkRose : Type 0) (ended : Status)
    : Type 0 where
  pub count : ℕ
  pub middle : Option (List ℕ)
  pub summary : Summary
  pub reported : IsReported nodes budget all before middle count summary
  pub next : Obligation
  pub is : slice_get all count ≡ Some next
  pub unreported : IsUnreported nodes next.term next.name budget middle now SinkRose ended

-- the terms of obligations are single digits
abbrev pub AreDigits : List Node → List Obligation → Type 0
AreDigits nodes = All (λ (o : Obligation). HasWidth nodes o.term 1)

-- the status that a summary comes to
abbrev pub status_of : Summary → Status
status_of summary = if is_some summary.refuted then status.Refuted else if summary.spent then status.Undecided else status.Done

-- the status that counts of verdicts come to
abbrev pub status_of_counts : counts.Tally → Status
status_of_counts tally = if nat_lt 0 tally.fails then status.Refuted else if nat_lt 0 tally.spent then status.Undecided else status.Done

-- the environment gives each input of the terms of the file's obligations a word of its width
abbrev pub IsFitting : List RuleKind → File → Refutation → Type 0
IsFitting kinds f r = FitsTerms kinds f (inputs_of r.env)

-- these are the file's obligations, and their terms are in this bank
pub record AreMadeIn (kinds : List RuleKind) (f : File) (nodes : List Node) (all : List Obligation) : Type 0 where
  pub bank : IsBank nodes
  pub nodes_are : nodes ≡ (file_made kinds f []).nodes
  pub terms_are : terms_in all ≡ (file_made kinds f []).value
  pub placed : ArePlaced all

-- What is printed of the obligation of this name at the place that an environment refutes: the line, and the text of a schedule that fits the obligation, and
-- violates it where the one that the environment names does.
pub record IsRefutingBy (kinds : List RuleKind) (f : File) (name : List ℕ) (place : ℕ) (env : List Given) (text : List ℕ) : Type 0 where
  pub schedule : Schedule
  pub fitted : IsFitted f place schedule
  pub bounded : IfSome schedule.stop (λ h. h.event < 2 ^ 64)
  pub violates : ViolatesAsNamed kinds f (inputs_of env) place schedule
  pub text_is : text ≡ refutation f name schedule

-- what is printed of a refutation of one of a file's obligations of these names
abbrev pub IsRefuting : List RuleKind → File → List (List ℕ) → Refutation → List ℕ → Type 0
IsRefuting kinds f names r = IsRefutingBy kinds f (get_or names r.place []) r.place r.env

-- what is printed last by a summary over a file's obligations of these names
abbrev pub IsLast : List RuleKind → File → List (List ℕ) → Summary → List ℕ → Type 0
IsLast kinds f names summary text =
    MatchOption summary.refuted (text ≡ (if summary.spent then undecided_line else verified_line (length names))) (λ r. IsRefuting kinds f names r text)

-- the text and the status that a summary comes to
pub record IsEnd (kinds : List RuleKind) (f : File) (names : List (List ℕ)) (summary : Summary) (status : Status) (text : List ℕ) : Type 0 where
  pub status_is : status ≡ status_of summary
  pub text_is : IsLast kinds f names summary text

-- what was printed last: whole or in part; or no memory was left for it
abbrev pub EndsWith : List RuleKind → File → List (List ℕ) → Summary → Option (List ℕ) → Option (List ℕ) → (SinkRose : Type 0) → Status → Type 0
EndsWith kinds f names summary before now SinkRose ended =
    ((status : Status) × (text : List ℕ) × IsEnd kinds f names summary status text × IsPutSo before now text status SinkRose ended)
    ⊎ ((ended ≡ status.NoMemory) × (now ≡ before))

-- All of the file's obligations were reported, and then what is printed last was put whole or in part, or no memory was left for it.
pub record IsFinished (kinds : List RuleKind) (f : File) (nodes : List Node) (budget : ℕ) (all : List Obligation) (before now : Option (List ℕ))
    (SinkRose : Type 0) (ended : Status) : Type 0 where
  pub middle : Option (List ℕ)
  pub summary : Summary
  pub reported : IsReported nodes budget all before middle (length all) summary
  pub last : EndsWith kinds f (names_in all) summary middle now SinkRose ended

-- how reporting the obligations of a file ends: so, or an obligation was not reported
abbrev pub IsConcluded : List RuleKind → File → List Node → ℕ → List Obligation → Option (List ℕ) → Option (List ℕ) → (SinkRose : Type 0) → Status → Type 0
IsConcluded kinds f nodes budget all before now SinkRose ended =
    IsFinished kinds f nodes budget all before now SinkRose ended ⊎ IsStopped nodes budget all before now SinkRose ended
