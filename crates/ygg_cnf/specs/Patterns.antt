-- How clauses are made of the literals of a block.
use Rattle.std.specs.Prelude.{◌≢◌, ℕ, ◌<◌, Bool, true, false, Option, Some, None, List, [], ◌∷◌, get_or}
use Rattle.ygg_cnf.specs.Literals.{complement}
use Rattle.ygg_cnf.specs.declared.lit.Lit.{Lit}
use Rattle.ygg_cnf.specs.declared.pattern.Pattern.{Pattern}
use Rattle.ygg_cnf.specs.declared.pattern.PatternLit.{PatternLit}

-- the literal, or its complement
abbrev pub complemented_if : Bool → Lit → Lit
complemented_if true x = complement x
complemented_if false x = x

-- what stands where a block has no literal
abbrev pub no_literal : Lit
no_literal = record { var = 0; negated = false }

-- the literal of a block that a pattern names
abbrev pub picked : List Lit → PatternLit → Lit
picked block p = complemented_if p.complemented (get_or block p.place no_literal)

-- the third literal, where there is one
abbrev pub third : List Lit → Option PatternLit → List Lit
third block None = []
third block (Some p) = picked block p ∷ []

-- the clause that a pattern makes of a block
abbrev pub made : List Lit → Pattern → List Lit
made block p = picked block p.one ∷ picked block p.two ∷ third block p.three

-- a third literal stands in a block of so many, and at another place than these two
abbrev pub IsThird : ℕ → ℕ → ℕ → Option PatternLit → Type 0
IsThird count i j None = Unit {0}
IsThird count i j (Some p) = (p.place < count) × ((p.place ≢ i) × (p.place ≢ j))

-- the literals stand in a block of so many, at different places
pub record IsPattern (count : ℕ) (p : Pattern) : Type 0 where
  pub one : p.one.place < count
  pub two : p.two.place < count
  pub apart : p.two.place ≢ p.one.place
  pub third : IsThird count p.one.place p.two.place p.three
