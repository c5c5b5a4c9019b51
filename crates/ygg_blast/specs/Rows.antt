-- The rows of gates, as patterns over the literals of a gate: its output, and then its inputs.
use Rattle.std.specs.Prelude.{ℕ, true, false, Some, None, List, [], ◌∷◌}
use Rattle.ygg_cnf.specs.declared.pattern.Pattern.{Pattern}
use Rattle.ygg_cnf.specs.declared.pattern.PatternLit.{PatternLit}

-- the literal at a place
abbrev pub plain : ℕ → PatternLit
plain place = record { place = place; complemented = false }

-- its complement
abbrev pub complemented : ℕ → PatternLit
complemented place = record { place = place; complemented = true }

abbrev pub pair : PatternLit → PatternLit → Pattern
pair a b = record { one = a; two = b; three = None }

abbrev pub triple : PatternLit → PatternLit → PatternLit → Pattern
triple a b c = record { one = a; two = b; three = Some c }

abbrev pub and_rows : List Pattern
and_rows = pair (complemented 0) (plain 1) ∷ pair (complemented 0) (plain 2) ∷ triple (plain 0) (complemented 1) (complemented 2) ∷ []

abbrev pub xor_rows : List Pattern
xor_rows =
    triple (complemented 0) (plain 1) (plain 2) ∷ triple (complemented 0) (complemented 1) (complemented 2)
    ∷ triple (plain 0) (complemented 1) (plain 2) ∷ triple (plain 0) (plain 1) (complemented 2) ∷ []

abbrev pub mux_rows : List Pattern
mux_rows =
    triple (complemented 0) (complemented 1) (plain 2) ∷ triple (plain 0) (complemented 1) (complemented 2)
    ∷ triple (complemented 0) (plain 1) (plain 3) ∷ triple (plain 0) (plain 1) (complemented 3) ∷ []
