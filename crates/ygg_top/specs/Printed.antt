-- The clauses of an obligation, printed.
use Rattle.std.specs.Prelude.{◌≡◌, ◌↔◌, ◌<◌, ℕ, Bool, List, [], length, slice_get, Some, Contains, map}
use Rattle.ygg_base.specs.declared.status.Status.{Status}
use Rattle.ygg_base.specs.declared.status.Status.TheVariants.{Done}
use Rattle.ygg_syntax.specs.declared.tree.File.{File}
use Rattle.ygg_dimacs.specs.ygg_rules.declared.rule.RuleKind.{RuleKind}
use Rattle.ygg_sched.specs.ygg_meaning.Obligations.{Schedule}
use Rattle.ygg_sched.specs.ygg_meaning.Claims.{Claim, ClaimViolated, claims_of}
use Rattle.ygg_dimacs.specs.ygg_bank.declared.node.Id.{Id}
use Rattle.ygg_dimacs.specs.ygg_cnf.declared.lit.Lit.{Lit}
use Rattle.ygg_dimacs.specs.ygg_cnf.Literals.{SatisfiesAll}
use Rattle.ygg_dimacs.specs.ygg_gates.Groups.{translated}
use Rattle.ygg_oblige.specs.declared.obligation.Obligation.{Obligation}
use Rattle.ygg_certify.specs.ygg_oblige_laws.Terms.{file_made}
use Rattle.ygg_certify.specs.ygg_oblige_laws.Meaning.{claim_name}
use Rattle.ygg_dimacs.specs.Counted.{clauses_text}

-- some truth values satisfy the clauses exactly where some schedule violates the obligation
abbrev pub AskFor : List (List Lit) → Claim → Type 0
AskFor clauses c = ((value : ℕ → Bool) × SatisfiesAll value clauses) ↔ ((x : Schedule) × ClaimViolated c x)

-- The text of the clauses of an obligation of this name, under a book of these kinds.
pub record IsClausesOf (kinds : List RuleKind) (f : File) (name text : List ℕ) : Type 0 where
  pub place : ℕ
  pub claim : Claim
  pub term : Id
  pub stands : slice_get (claims_of f) place ≡ Some claim
  pub named : claim_name claim ≡ name
  pub means : slice_get (file_made kinds f []).value place ≡ Some term
  pub is : text ≡ clauses_text (translated (file_made kinds f []).nodes term).clauses
  pub asks : AskFor (translated (file_made kinds f []).nodes term).clauses claim

-- how printing the clauses of an obligation of this name ends, and its text
abbrev pub Printed : List RuleKind → File → List ℕ → Status → List ℕ → Type 0
Printed kinds f name Done text = IsClausesOf kinds f name text
Printed kinds f name status text = ⊥

-- an obligation of the file has this name
abbrev pub IsNamed : File → List ℕ → Type 0
IsNamed f name = Contains (map claim_name (claims_of f)) name

-- the obligation at this place of a list has this name
pub record IsPlace (all : List Obligation) (name : List ℕ) (place : ℕ) : Type 0 where
  pub obligation : Obligation
  pub within : place < length all
  pub stands : slice_get all place ≡ Some obligation
  pub named : obligation.name ≡ name
