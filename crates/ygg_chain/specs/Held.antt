-- The clauses that a checker holds, kept with the places of their variables, and the set of literals that it resolves in.
use Rattle.std.specs.Prelude.{ℕ, ◌≤◌, ◌*◌, Bool, List, length, All, Contains, ◌↔◌}
use Rattle.ygg_cnf.specs.declared.lit.Lit.{Lit}
use Rattle.ygg_cnf.specs.Derivations.{HasClause}
use Rattle.ygg_chain.specs.Places.{IsDistinct, IsPlaced, StandsFor, clauses_at}
use Rattle.ygg_cnf_set.specs.LiteralSet.{InSet, IsSetOf}

-- the number names the clause, among kept clauses read by their variables
abbrev pub Holds : List ℕ → List (List Lit) → ℕ → List Lit → Type 0
Holds variables clauses = HasClause (clauses_at variables clauses)

-- each variable has one place, each literal of a kept clause has one of those places, and the set has two truth values for each place
pub record IsKept (variables : List ℕ) (clauses : List (List Lit)) (seen : ℕ) : Type 0 where
  pub distinct : IsDistinct variables
  pub placed : All (All (IsPlaced variables)) clauses
  pub room : 2 * length variables ≤ seen

-- the clauses are kept, and the set is empty
pub record IsReady (variables : List ℕ) (clauses : List (List Lit)) (seen : List Bool) : Type 0 where
  pub kept : IsKept variables clauses (length seen)
  pub clear : IsSetOf seen (λ _. ⊥)

-- the literal y, of a variable and not of a place, is in the set
abbrev pub InSetAs : List ℕ → List Bool → Lit → Type 0
InSetAs variables seen y = (x : Lit) × (StandsFor variables x y × InSet seen x)

-- the literals of the set are those of the clause, both of variables
abbrev pub IsSetOfAs : List ℕ → List Bool → List Lit → Type 0
IsSetOfAs variables seen clause = (y : Lit) → InSetAs variables seen y ↔ Contains clause y

-- the literal is in the clause of that number
abbrev pub IsNumbered : List (List Lit) → ℕ → Lit → Type 0
IsNumbered clauses id y = (named : List Lit) × (HasClause clauses id named × Contains named y)

-- the literal is in a clause that one of the numbers names
abbrev pub IsNamed : List (List Lit) → List ℕ → Lit → Type 0
IsNamed clauses ids y = (id : ℕ) × (Contains ids id × IsNumbered clauses id y)
