-- When a chain of clause numbers derives a clause by resolution. A set of literals is a predicate here, and so is the relation
-- 'this number names this clause', so that nothing below depends on how clauses are kept or dropped.
use Rattle.std.specs.Prelude.{◌≡◌, ◌≢◌, ℕ, zero, suc, List, [], ◌∷◌, Contains, ◌⊎◌, ◌↔◌, slice_get, Some}
use Rattle.ygg_cnf.specs.declared.lit.Lit.{Lit}
use Rattle.ygg_cnf.specs.Literals.{complement}

-- x is the one literal of the set whose complement is in the clause
pub record IsPivot (set : Lit → Type 0) (clause : List Lit) (x : Lit) : Type 0 where
  pub here : set x
  pub there : Contains clause (complement x)
  pub only : (y : Lit) → set y → Contains clause (complement y) → y ≡ x

-- y is in the set without x, or in the clause without the complement of x
abbrev pub Resolvent : (Lit → Type 0) → List Lit → Lit → Lit → Type 0
Resolvent set clause x y = (set y × (y ≢ x)) ⊎ (Contains clause y × (y ≢ complement x))

-- resolving the set with the named clauses, one after another, each time on the one pivot there is, gives the clause as a set
abbrev pub Resolves : (ℕ → List Lit → Type 0) → (Lit → Type 0) → List ℕ → List Lit → Type 0
Resolves held set [] clause = (y : Lit) → set y ↔ Contains clause y
Resolves held set (id ∷ ids) clause =
    (next : List Lit) × (held id next × ((x : Lit) × (IsPivot set next x × Resolves held (Resolvent set next x) ids clause)))

-- the chain names at least one clause, and resolving the first with the others in order gives the clause
abbrev pub DerivesClause : (ℕ → List Lit → Type 0) → List ℕ → List Lit → Type 0
DerivesClause held [] clause = ⊥
DerivesClause held (id ∷ ids) clause = (first : List Lit) × (held id first × Resolves held (Contains first) ids clause)

-- the number names the clause, where the clauses of a list are numbered from 1
abbrev pub HasClause : List (List Lit) → ℕ → List Lit → Type 0
HasClause clauses zero clause = ⊥
HasClause clauses (suc place) clause = slice_get clauses place ≡ Some clause
