-- Literals, clauses as sets of them, and assignments.
use Rattle.std.specs.Prelude.{
  ◌≡◌,
  ◌≢◌,
  ℕ,
  zero,
  suc,
  Bool,
  false,
  not,
  ◌==◌,
  ◌&&◌,
  if◌then◌else◌,
  List,
  [],
  ◌∷◌,
  ◌++◌,
  Contains,
  All,
  AllPairs,
  Any,
  ◌↔◌,
  get_or,
}
use Rattle.std.specs.Bool.{beq}
use Rattle.std.specs.List.{list_any}
use Rattle.ygg_cnf.specs.declared.lit.Lit.{Lit}

-- the literal of the same variable that is true where this one is false
abbrev pub complement : Lit → Lit
complement x = record { var = x.var; negated = not x.negated }

-- the two clauses have the same literals
abbrev pub IsSameSet : List Lit → List Lit → Type 0
IsSameSet a b = (x : Lit) → Contains a x ↔ Contains b x

-- no literal stands twice in the clause
abbrev pub IsOnce : List Lit → Type 0
IsOnce clause = AllPairs (λ x y. x ≢ y) clause

-- no two of the literals have one variable
abbrev pub AreApart : List Lit → Type 0
AreApart literals = AllPairs (λ x y. y.var ≢ x.var) literals

-- whether the two literals are one
abbrev pub is_same : Lit → Lit → Bool
is_same x y = x.var == y.var && beq x.negated y.negated

-- the clause with a literal, which is added at its end where it isn't there yet
abbrev pub with_literal : List Lit → Lit → List Lit
with_literal clause x = if list_any (is_same x) clause then clause else clause ++ x ∷ []

-- the clause with these literals, one after another
abbrev pub with_literals : List Lit → List Lit → List Lit
with_literals clause [] = clause
with_literals clause (x ∷ xs) = with_literals (with_literal clause x) xs

-- the clause of these literals, each of them once, in the order of their first places
abbrev pub once : List Lit → List Lit
once literals = with_literals [] literals

-- the truth value that an assignment gives to a variable: variables are numbered from 1, and false past the end
abbrev pub truth_of : List Bool → ℕ → Bool
truth_of values zero = false
truth_of values (suc place) = get_or values place false

-- the literal is true under these truth values of the variables
abbrev pub Satisfies : (ℕ → Bool) → Lit → Type 0
Satisfies value x = value x.var ≡ not x.negated

-- a literal of the clause is true
abbrev pub SatisfiesClause : (ℕ → Bool) → List Lit → Type 0
SatisfiesClause value clause = Any (Satisfies value) clause

-- each clause is true
abbrev pub SatisfiesAll : (ℕ → Bool) → List (List Lit) → Type 0
SatisfiesAll value clauses = All (SatisfiesClause value) clauses
