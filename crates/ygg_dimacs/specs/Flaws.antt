-- The refusals of a text of clauses.
use Rattle.std.specs.Prelude.{ℕ}
use Rattle.ygg_base.specs.declared.failure.Refusal.{Refusal}
use Rattle.ygg_dimacs.specs.declared.flaw.ClausesFlaw.{ClausesFlaw}
use Rattle.ygg_dimacs.specs.declared.flaw.ClausesFlaw.TheVariants.{Header, Number, Count}

-- the number of each flaw
abbrev pub number_of : ClausesFlaw → ℕ
number_of Header = 61
number_of Number = 62
number_of Count = 63

-- the refusal for a flaw at a line and a column
abbrev pub refusal_at : ClausesFlaw → ℕ → ℕ → Refusal
refusal_at flaw line column = record { number = number_of flaw; line = line; column = column }
