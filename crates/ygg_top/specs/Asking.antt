-- How `cnf` ends.
use Rattle.std.specs.Prelude.{◌≡◌, ◌⊎◌, ℕ, List, Option, Some}
use Rattle.ygg_base.specs.declared.failure.Refusal.{Refusal}
use Rattle.ygg_base.specs.declared.lists.Held.{Held}
use Rattle.ygg_base.specs.declared.status.Status.{Status}
use Rattle.ygg_base.specs.declared.reason.Reason.TheVariants as reason
use Rattle.ygg_base.specs.Reason.{refusal_at}
use Rattle.ygg_syntax.specs.declared.tree.File.{File}
use Rattle.ygg_top_command.specs.ygg_report.Putting.{IsCutOf}
use Rattle.ygg_top.specs.ygg_rules.declared.rule.RuleKind.{RuleKind}
use Rattle.ygg_top.specs.Printed.{IsNamed, Printed}
use Rattle.ygg_top_command.specs.Refusing.{IsLayerFile, RefusesFile}
use Rattle.ygg_top_command.specs.Standing.{DoesWith, IsRefused}

-- `cnf` for a layer file of a name, under a book of these kinds: no obligation of the file has it, which is refused 74 at `0:2`, or the clauses of one of this
-- name are printed
abbrev pub Asks : List RuleKind → File → List ℕ → Status → List ℕ → Type 0
Asks kinds f name status text = ((IsNamed f name → ⊥) × IsRefused (refusal_at reason.NoObligation 0 2) status text) ⊎ Printed kinds f name status text

-- the same of what stands under the file's name: it is refused, before the obligation's name is looked at, or it is a layer file without a fault
abbrev pub AsksStored : List RuleKind → List ℕ → Option (List ℕ) → Status → List ℕ → Type 0
AsksStored kinds name stored status text =
    ((r : Refusal) × RefusesFile stored r × IsRefused r status text)
    ⊎ ((bytes : List ℕ) × (f : File) × (stored ≡ Some bytes) × IsLayerFile bytes f × Asks kinds f name status text)

-- `cnf` of a file's name and an obligation's name
abbrev pub AsksNamed : List RuleKind → Option (List Held) → (file name : List ℕ) → Status → List ℕ → Type 0
AsksNamed kinds files file name = DoesWith (AsksStored kinds name) files file

-- The clauses of an obligation of this name are to be printed, and however that ends, it is this that the command does.
abbrev pub AskingIs : List RuleKind → File → List ℕ → (Status → List ℕ → Type 0) → Type 0
AskingIs kinds f name Does = IsNamed f name × ((status : Status) (text : List ℕ) → Printed kinds f name status text → Does status text)

-- printing the clauses of an obligation is what a command does that does this, and this is a front of their text
pub record IsCutAsking (kinds : List RuleKind) (Does : Status → List ℕ → Type 0) (front : List ℕ) : Type 0 where
  pub file : File
  pub name : List ℕ
  pub does : AskingIs kinds file name Does
  pub cut : IsCutOf (Printed kinds file name) front
