-- Literals by their codes.
use Rattle.std.specs.Prelude.{ℕ, ◌/◌, ◌%◌, eqb}
use Rattle.ygg_cnf.specs.declared.lit.Lit.{Lit}

-- the literal of a code
abbrev pub lit_at : ℕ → Lit
lit_at c = record { var = c / 2; negated = eqb (c % 2) 1 }
