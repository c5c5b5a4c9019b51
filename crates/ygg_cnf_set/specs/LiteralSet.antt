-- A set of literals as a list of truth values, two for each variable.
use Rattle.std.specs.Prelude.{◌≡◌, ℕ, ◌<◌, ◌+◌, ◌*◌, Bool, true, false, cond, List, get_or, ◌↔◌}
use Rattle.ygg_cnf.specs.declared.lit.Lit.{Lit}

-- the place of a literal in a set
abbrev pub code_of : Lit → ℕ
code_of x = 2 * x.var + cond x.negated 1 0

-- so many truth values have one for the literal and one for its complement
abbrev pub Fits : ℕ → Lit → Type 0
Fits room x = 2 * x.var + 1 < room

-- the literal is in the set
abbrev pub InSet : List Bool → Lit → Type 0
InSet seen x = get_or seen (code_of x) false ≡ true

-- the literals of the set are those of the predicate
abbrev pub IsSetOf : List Bool → (Lit → Type 0) → Type 0
IsSetOf seen set = (y : Lit) → InSet seen y ↔ set y
