-- What is known of the number of some decimal digits.
use Rattle.std.proofs.Common.{◌≡◌, ℕ, true, List, [], ◌∷◌, length, refl}
use Rattle.std.specs.List.{list_all}
use Rattle.ygg_base.specs.Lexing.{number_of, is_digit}
use Rattle.ygg_sched.specs.Numbers.{decimal_in}

-- digits
pub a_decimal : (bytes : List ℕ) → (length bytes ≡ 0 → ⊥) → list_all is_digit bytes ≡ true → decimal_in bytes ≡ number_of bytes
a_decimal [] some digits = absurd (some refl)
a_decimal (b ∷ bytes) some digits = rw digits refl
