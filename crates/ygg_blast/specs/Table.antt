-- The bits of nodes by place, where those of nodes that aren't reached are left out.
use Rattle.std.specs.Prelude.{ℕ, zero, suc, ◌<◌, ◌==◌, if◌then◌else◌, List, [], ◌∷◌, ◌++◌}
use Rattle.ygg_cnf.specs.declared.lit.Lit.{Lit}

-- the bits at a place, none where nothing is kept
abbrev pub bits_in : List (ℕ × List Lit) → ℕ → List Lit
bits_in [] place = []
bits_in (e ∷ es) place = if place == e.0 then e.1 else bits_in es place

-- the bits of so many nodes, in order
abbrev pub all_bits : ℕ → List (ℕ × List Lit) → List (List Lit)
all_bits zero es = []
all_bits (suc count) es = all_bits count es ++ bits_in es count ∷ []

-- what is kept is kept for places below this one
abbrev pub AreBelow : ℕ → List (ℕ × List Lit) → Type 0
AreBelow count [] = Unit {0}
AreBelow count (e ∷ es) = (e.0 < count) × AreBelow count es
