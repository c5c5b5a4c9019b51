-- From what is fetched to what `cnf` does.
use Rattle.std.proofs.Common.{◌≡◌, ℕ, Bool, true, false, List, Option, Some, inl, inr, refl, sym, subst}
use Rattle.std.specs.Prelude.{MatchBool}
use Rattle.ygg_base.specs.declared.failure.Refusal.{Refusal}
use Rattle.ygg_base.specs.declared.lists.Held.{Held}
use Rattle.ygg_base.specs.declared.reason.Reason.TheVariants as reason
use Rattle.ygg_base.specs.declared.status.Status.{Status}
use Rattle.ygg_base.specs.declared.status.Status.TheVariants.{Refused}
use Rattle.ygg_base.specs.Reason.{refusal_at}
use Rattle.ygg_syntax.specs.declared.tree.File.{File}
use Rattle.ygg_top_command.specs.ygg_report.Lines.{refused_line}
use Rattle.ygg_top_command.specs.ygg_report.Putting.{IsCutOf}
use Rattle.ygg_top.specs.ygg_rules.declared.rule.RuleKind.{RuleKind}
use Rattle.ygg_top.specs.Printed.{IsNamed, Printed}
use Rattle.ygg_top_command.specs.Fetched.{StandsFile}
use Rattle.ygg_top_command.specs.Refusing.{RefusesFile}
use Rattle.ygg_top.specs.Asking.{Asks, AsksStored, AsksNamed, IsCutAsking}

-- whether an obligation of the file has the name
module _ (f g : File) (name : List ℕ) (found : Bool) (same : g ≡ f) (told : MatchBool found (IsNamed g name) (IsNamed g name → ⊥)) where
  pub has_name : found ≡ true → IsNamed f name
  has_name e = subst (λ h. IsNamed h name) same (subst (λ b. MatchBool b (IsNamed g name) (IsNamed g name → ⊥)) e told)

  pub has_none : found ≡ false → IsNamed f name → ⊥
  has_none e named = subst (λ b. MatchBool b (IsNamed g name) (IsNamed g name → ⊥)) e told (subst (λ h. IsNamed h name) (sym same) named)

-- the clauses of an obligation of this name
pub asked : (kinds : List RuleKind) (f : File) (name : List ℕ) (status : Status) (text : List ℕ) → Printed kinds f name status text →
    Asks kinds f name status text
asked kinds f name status text printed = inr printed

-- a front of the clauses of an obligation of a name that one has
pub front_asked : (kinds : List RuleKind) (f : File) (name : List ℕ) → IsNamed f name → (front : List ℕ) → IsCutOf (Printed kinds f name) front →
    IsCutAsking kinds (Asks kinds f name) front
front_asked kinds f name named front cut = record { file = f; name = name; does = (named, asked kinds f name); cut = cut }

-- a name that none has
pub unnamed : (kinds : List RuleKind) (f : File) (name : List ℕ) (at : Refusal) → (IsNamed f name → ⊥) → at ≡ refusal_at reason.NoObligation 0 2 →
    Asks kinds f name Refused (refused_line at)
unnamed kinds f name at none same = inl (none, (refl, subst (λ r. refused_line at ≡ refused_line r) same refl))

-- a layer file that is refused
pub file_refused : (kinds : List RuleKind) (name : List ℕ) (stored : Option (List ℕ)) (r : Refusal) → RefusesFile stored r →
    AsksStored kinds name stored Refused (refused_line r)
file_refused kinds name stored r refuses = inl (r, refuses, (refl, refl))

-- one that is read
pub file_read : (kinds : List RuleKind) (files : Option (List Held)) (file name : List ℕ) (f : File) → StandsFile files file f →
    (status : Status) (text : List ℕ) → Asks kinds f name status text → AsksNamed kinds files file name status text
file_read kinds files file name f stands status text does = (Some stands.0, stands.1, inr (stands.0, f, refl, stands.2, does))

-- a front of what a command puts that does one thing and so another
pub front_to : (kinds : List RuleKind) (Does Other : Status → List ℕ → Type 0) → ((status : Status) (text : List ℕ) → Does status text → Other status text) →
    (front : List ℕ) → IsCutAsking kinds Does front → IsCutAsking kinds Other front
front_to kinds Does Other to front cut =
    record { file = cut.file; name = cut.name; does = (cut.does.0, λ status text printed. to status text (cut.does.1 status text printed)); cut = cut.cut }
