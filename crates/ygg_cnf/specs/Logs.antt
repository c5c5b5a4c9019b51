-- Logs of derived clauses, and what it means that a clause teaches.
use Rattle.std.specs.Prelude.{◌≡◌, ◌≢◌, ℕ, List, [], ◌∷◌, ◌++◌, length, Contains, All, Any, ◌⊎◌}
use Rattle.ygg_cnf.specs.declared.lit.Lit.{Lit}
use Rattle.ygg_cnf.specs.declared.log.Step.{Step}
use Rattle.ygg_cnf.specs.declared.log.Step.TheVariants.{Added}
use Rattle.ygg_cnf.specs.Literals.{complement}
use Rattle.ygg_cnf.specs.Derivations.{HasClause, DerivesClause}

-- the clause that an entry adds
abbrev pub clause_of : Step → List Lit
clause_of (Added clause chain) = clause

-- the numbers of the clauses that an entry's clause is derived from
abbrev pub chain_of : Step → List ℕ
chain_of (Added clause chain) = chain

-- each entry's chain derives its clause from the given clauses and those of the entries before it, numbered on
abbrev pub Derives : List (List Lit) → List Step → Type 0
Derives clauses [] = Unit {0}
Derives clauses (step ∷ log) =
    DerivesClause (HasClause clauses) (chain_of step) (clause_of step) × Derives (clauses ++ clause_of step ∷ []) log

-- the log's last clause is empty
abbrev pub EndsEmpty : List Step → Type 0
EndsEmpty log = (rest : List Step) × ((step : Step) × ((log ≡ rest ++ step ∷ []) × (clause_of step ≡ [])))

-- each clause of the log is derived, and a given clause is empty or the log's last one is
pub record Refutes (clauses : List (List Lit)) (log : List Step) : Type 0 where
  pub derives : Derives clauses log
  pub empty : Contains clauses [] ⊎ EndsEmpty log

-- the clause has a literal in the set, or two literals whose complements aren't in it
abbrev pub IsOpen : List Lit → List Lit → Type 0
IsOpen set clause =
    Any (Contains set) clause
    ⊎ ((x : Lit) × ((y : Lit) × (Contains clause x × Contains clause y × (x ≢ y)
    × (Contains set (complement x) → ⊥) × (Contains set (complement y) → ⊥))))

-- under the literals of the set, none of them together with its complement, the clause leaves x alone, x is undecided, and
-- each clause before has a true literal or two that aren't false: so unit propagation gives x only now
pub record TeachesAt (clauses : List (List Lit)) (clause : List Lit) (set : List Lit) (x : Lit) : Type 0 where
  pub consistent : (y : Lit) → Contains set y → Contains set (complement y) → ⊥
  pub here : Contains clause x
  pub others : (y : Lit) → Contains clause y → y ≢ x → Contains set (complement y)
  pub undecided : (Contains set x → ⊥) × (Contains set (complement x) → ⊥)
  pub opens : All (IsOpen set) clauses

-- the clause adds a unit consequence that the clauses before it did not give
abbrev pub Teaches : List (List Lit) → List Lit → Type 0
Teaches clauses clause = (set : List Lit) × ((x : Lit) × TeachesAt clauses clause set x)

-- each entry's clause teaches beside the given clauses and those of the entries before it
abbrev pub EachTeaches : List (List Lit) → List Step → Type 0
EachTeaches clauses [] = Unit {0}
EachTeaches clauses (step ∷ log) = Teaches clauses (clause_of step) × EachTeaches (clauses ++ clause_of step ∷ []) log

-- exactly as many derived clauses as the budget says, each of which teaches
pub record SpentLog (clauses : List (List Lit)) (log : List Step) (budget : ℕ) : Type 0 where
  pub derives : Derives clauses log
  pub count : length log ≡ budget
  pub teach : EachTeaches clauses log
