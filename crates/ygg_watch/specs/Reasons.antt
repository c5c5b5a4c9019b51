-- Reasons as numbers.
use Rattle.std.specs.Prelude.{ℕ, zero, suc, Option, Some, None}

-- the reason that a number stands for, which is none for 0
abbrev pub reason_at : ℕ → Option ℕ
reason_at zero = None
reason_at (suc n) = Some (suc n)

-- the number that stands for a reason
abbrev pub number_of : Option ℕ → ℕ
number_of None = 0
number_of (Some id) = id
