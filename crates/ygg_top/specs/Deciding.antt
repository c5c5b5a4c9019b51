-- How `decide` ends.
use Rattle.std.specs.Prelude.{◌≡◌, ◌⊎◌, ℕ, List, [], ◌∷◌, ◌++◌, slice_get, Option, Some, MatchOption, is_some, if◌then◌else◌}
use Rattle.ygg_base.specs.declared.failure.Refusal.{Refusal}
use Rattle.ygg_base.specs.declared.lists.Held.{Held}
use Rattle.ygg_base.specs.declared.reason.Reason.TheVariants as reason
use Rattle.ygg_base.specs.declared.status.Status.{Status}
use Rattle.ygg_base.specs.declared.status.Status.TheVariants.{Done, Refuted, Undecided}
use Rattle.ygg_base.specs.Reason.{refusal_at}
use Rattle.ygg_syntax.specs.declared.tree.File.{File}
use Rattle.ygg_oblige_reading.specs.ygg_rules.declared.rule.RuleKind.{RuleKind}
use Rattle.ygg_yard.specs.ygg_meaning.Claims.{Claim, claims_of}
use Rattle.ygg_certify.specs.ygg_bank.declared.env.Given.{Given}
use Rattle.ygg_certify.specs.ygg_bank.declared.node.Id.{Id}
use Rattle.ygg_certify.specs.ygg_bank.declared.node.Node.{Node}
use Rattle.ygg_certify.specs.ygg_oblige_laws.Terms.{file_made}
use Rattle.ygg_certify.specs.ygg_oblige_laws.Meaning.{claim_name}
use Rattle.ygg_top.specs.ygg_report.Lines.{verdict_line}
use Rattle.ygg_top.specs.ygg_report.Tallies.{finds_spent}
use Rattle.ygg_top.specs.ygg_report.declared.verdict.Verdict as report
use Rattle.ygg_top.specs.ygg_top_command.Refusing.{IsLayerFile, RefusesFile}
use Rattle.ygg_top.specs.ygg_top_command.Standing.{DoesWith, IsRefused}
use Rattle.ygg_top.specs.ygg_top_command.Words.{IsBudget, IsNoBudget}
use Rattle.ygg_top.specs.ygg_top_command.declared.stopping.CommandStop.{CommandStop}
use Rattle.ygg_top.specs.ygg_top_command.declared.stopping.CommandStop.TheVariants as stop
use Rattle.ygg_top.specs.Findings.{IsFound, IsKept, IsRefutingBy}
use Rattle.ygg_top.specs.Printed.{IsNamed}
use Rattle.ygg_top.specs.Verdict.{Verdict, IsTrue, IsRefutation, first_refuted, lines_of, status_by}

-- How deciding an obligation of this name of a file ends within a budget, under a book of these kinds, and its text: there is a true verdict on it, and the
-- status and the line are those that `verify` has for a list of this one verdict. Where it fails, behind the line stands what `verify` prints of the first
-- that fails: the line of the refutation, and a schedule that violates the obligation, as `replay` shows.
pub record IsDecision (kinds : List RuleKind) (f : File) (budget : ℕ) (name : List ℕ) (status : Status) (text : List ℕ) : Type 0 where
  pub place : ℕ
  pub claim : Claim
  pub term : Id
  pub stands : slice_get (claims_of f) place ≡ Some claim
  pub named : claim_name claim ≡ name
  pub means : slice_get (file_made kinds f []).value place ≡ Some term
  pub verdict : Verdict
  pub is_true : IsTrue (file_made kinds f []).nodes budget claim term verdict
  pub status_is : status ≡ status_by (verdict ∷ [])
  pub text_is : text ≡ lines_of budget (claim ∷ []) (verdict ∷ []) ++ first_refuted f (claim ∷ []) (verdict ∷ [])
  pub refuted : status ≡ Refuted → IsRefutation f (claims_of f) (first_refuted f (claim ∷ []) (verdict ∷ []))

-- `decide` within a budget for a layer file of a name, under a book of these kinds: no obligation of the file has it, which is refused 74 at `0:2`, or one of
-- this name is decided
abbrev pub Decides : List RuleKind → File → ℕ → List ℕ → Status → List ℕ → Type 0
Decides kinds f budget name status text =
    ((IsNamed f name → ⊥) × IsRefused (refusal_at reason.NoObligation 0 2) status text) ⊎ IsDecision kinds f budget name status text

-- the same of what stands under the file's name: it is refused, before the obligation's name is looked at, or it is a layer file without a fault
abbrev pub DecidesStored : List RuleKind → ℕ → List ℕ → Option (List ℕ) → Status → List ℕ → Type 0
DecidesStored kinds budget name stored status text =
    ((r : Refusal) × RefusesFile stored r × IsRefused r status text)
    ⊎ ((bytes : List ℕ) × (f : File) × (stored ≡ Some bytes) × IsLayerFile bytes f × Decides kinds f budget name status text)

-- `decide` of a file's name and an obligation's name, within a budget
abbrev pub DecidesNamed : List RuleKind → ℕ → Option (List Held) → (file name : List ℕ) → Status → List ℕ → Type 0
DecidesNamed kinds budget files file name = DoesWith (DecidesStored kinds budget name) files file

-- the same with a word for the budget: a word that is no budget is refused 72 at `0:3`, before anything is looked at
abbrev pub DecidesWithin : List RuleKind → Option (List Held) → (file name word : List ℕ) → Status → List ℕ → Type 0
DecidesWithin kinds files file name word status text =
    ((budget : ℕ) × IsBudget word budget × DecidesNamed kinds budget files file name status text)
    ⊎ (IsNoBudget word × IsRefused (refusal_at reason.Number 0 3) status text)

-- why there is no budget where a word, the third after the command's, is to be one
abbrev pub IsThirdBudgetless : List ℕ → CommandStop → Type 0
IsThirdBudgetless word (stop.Refused r) = IsNoBudget word × (r ≡ refusal_at reason.Number 0 3)
IsThirdBudgetless word stop.LibraryFailed = ⊥
IsThirdBudgetless word stop.NoMemory = Unit {0}

-- the status of what was found of one obligation
abbrev pub status_found : report.Verdict → Option (List Given) → Status
status_found found env = if is_some env then Refuted else if finds_spent found then Undecided else Done

-- What was found of an obligation of this name, place and term, and what is printed of it, with the status.
pub record IsDecided (kinds : List RuleKind) (f : File) (nodes : List Node) (budget : ℕ) (name : List ℕ) (term : Id) (place : ℕ) (end : Status × List ℕ)
    : Type 0 where
  pub found : report.Verdict
  pub env : Option (List Given)
  pub is_found : IsFound nodes term budget found
  pub kept : IsKept nodes term found env
  pub last : List ℕ
  pub last_is : MatchOption env (last ≡ []) (λ e. IsRefutingBy kinds f name place e last)
  pub status_is : end.0 ≡ status_found found env
  pub text_is : end.1 ≡ verdict_line found name ++ last
