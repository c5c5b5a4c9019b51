-- The trail: the assigned literals in order, each with its level and the number of the clause that implied it.
use Rattle.std.specs.Prelude.{◌≡◌, ◌≢◌, ℕ, ◌<◌, List, [], ◌∷◌, Contains, slice_get, Some, map, take, All, Any, cond, leb}
use Rattle.ygg_cnf.specs.Derivations.{HasClause}
use Rattle.ygg_cnf.specs.Literals.{complement}
use Rattle.ygg_cnf.specs.Logs.{IsOpen}
use Rattle.ygg_cnf.specs.declared.lit.Lit.{Lit}
use Rattle.ygg_watch.specs.declared.entry.Entry.{Entry}

-- the entry stands at the place, counted from 0
abbrev pub IsAt : List Entry → ℕ → Entry → Type 0
IsAt trail q e = slice_get trail q ≡ Some e

-- the literal is false by an entry before the place
abbrev pub IsFalseBefore : List Entry → ℕ → Lit → Type 0
IsFalseBefore trail n y = (q : ℕ) × ((e : Entry) × ((q < n) × (IsAt trail q e × (e.lit ≡ complement y))))

-- the literal is true
abbrev pub IsOnTrail : List Entry → Lit → Type 0
IsOnTrail trail y = (q : ℕ) × ((e : Entry) × (IsAt trail q e × (e.lit ≡ y)))

-- the variable has a value
abbrev pub IsAssigned : List Entry → ℕ → Type 0
IsAssigned trail var = Any (λ (e : Entry). e.lit.var ≡ var) trail

-- the clause of the number has the literal, and its others are false by entries before the place
pub record IsReason (clauses : List (List Lit)) (trail : List Entry) (n id : ℕ) (x : Lit) (clause : List Lit) : Type 0 where
  pub numbered : HasClause clauses id clause
  pub here : Contains clause x
  pub others : (y : Lit) → Contains clause y → y ≢ x → IsFalseBefore trail n y

-- the literals that are assigned before the place
abbrev pub assigned_before : List Entry → ℕ → List Lit
assigned_before trail n = map (λ e. e.lit) (take n trail)

-- under the literals before the place each clause has a true literal or two that are not false
abbrev pub IsQuietBefore : List (List Lit) → List Entry → ℕ → Type 0
IsQuietBefore clauses trail n = All (IsOpen (assigned_before trail n)) clauses

-- the entries before the first one above the level
abbrev pub keep_level : ℕ → List Entry → List Entry
keep_level level [] = []
keep_level level (e ∷ es) = cond (leb e.level level) (e ∷ keep_level level es) []
