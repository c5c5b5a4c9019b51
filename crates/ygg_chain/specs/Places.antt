-- Variables that have places, and literals whose variable is replaced by its place.
use Rattle.std.specs.Prelude.{◌≡◌, ◌≢◌, ℕ, ◌<◌, List, length, get_or, map, AllPairs}
use Rattle.ygg_cnf.specs.declared.lit.Lit.{Lit}

-- no variable stands twice
abbrev pub IsDistinct : List ℕ → Type 0
IsDistinct variables = AllPairs (λ v w. v ≢ w) variables

-- the literal's variable is the place of one of the variables
abbrev pub IsPlaced : List ℕ → Lit → Type 0
IsPlaced variables x = x.var < length variables

-- the literal of the variable that has the place
abbrev pub literal_at : List ℕ → Lit → Lit
literal_at variables x = record { var = get_or variables x.var 0; negated = x.negated }

-- x is the literal y with its variable's place in place of the variable
abbrev pub StandsFor : List ℕ → Lit → Lit → Type 0
StandsFor variables x y = IsPlaced variables x × (literal_at variables x ≡ y)

-- the clause of the variables that have its places
abbrev pub clause_at : List ℕ → List Lit → List Lit
clause_at variables clause = map (literal_at variables) clause

-- the clauses of the variables that have their places
abbrev pub clauses_at : List ℕ → List (List Lit) → List (List Lit)
clauses_at variables clauses = map (clause_at variables) clauses
