-- The clauses of gates.
use Rattle.std.specs.Prelude.{ℕ, suc, List, [], ◌∷◌, ◌++◌, map}
use Rattle.ygg_cnf.specs.Literals.{complement, once}
use Rattle.ygg_cnf.specs.declared.lit.Lit.{Lit}
use Rattle.ygg_gates.specs.Circuits.{literal}
use Rattle.ygg_gates.specs.declared.gate.Gate.{Gate}
use Rattle.ygg_gates.specs.declared.gate.Gate.TheVariants.{Free, And, Xor, Mux}

-- the rows of a gate whose variable has the literal o, as the table of gates has them. Literals of one row may be the same
abbrev pub gate_rows : Lit → Gate → List (List Lit)
gate_rows o Free = []
gate_rows o (And a b) =
    (complement o ∷ a ∷ []) ∷ (complement o ∷ b ∷ []) ∷ (o ∷ complement a ∷ complement b ∷ []) ∷ []
gate_rows o (Xor a b) =
    (complement o ∷ a ∷ b ∷ []) ∷ (complement o ∷ complement a ∷ complement b ∷ [])
    ∷ (o ∷ complement a ∷ b ∷ []) ∷ (o ∷ a ∷ complement b ∷ []) ∷ []
gate_rows o (Mux c a b) =
    (complement o ∷ complement c ∷ a ∷ []) ∷ (o ∷ complement c ∷ complement a ∷ [])
    ∷ (complement o ∷ c ∷ b ∷ []) ∷ (o ∷ c ∷ complement b ∷ []) ∷ []

-- the clauses of a gate: its rows, in which each literal is kept once
abbrev pub gate_clauses : Lit → Gate → List (List Lit)
gate_clauses o g = map once (gate_rows o g)

-- the clauses of gates in order, of which the first is that of this variable
abbrev pub clauses_from : ℕ → List Gate → List (List Lit)
clauses_from variable [] = []
clauses_from variable (g ∷ gates) = gate_clauses (literal variable) g ++ clauses_from (suc variable) gates
