-- The decimal digits of a number.
use Rattle.std.proofs.Common.{◌≡◌, ℕ, ◌+◌, ◌/◌, ◌%◌, ◌<◌, ◌≤◌, ◌^◌, List, [], ◌∷◌, ◌++◌, sym, ap, ◌∙◌, append_assoc}
use Rattle.std.specs.Fmt.{decimal}
use Rattle.std.proofs.lemmas.Fmt.{decimal_digit, decimal_step}

-- a digit after other bytes
pub one_digit : (front : List ℕ) (n : ℕ) → n < 10 → front ++ (48 + n) ∷ [] ≡ front ++ decimal n
one_digit front n small = ap (λ (x : List ℕ). front ++ x) (sym (decimal_digit n small))

-- the last digit after the others
pub last_digit : (front : List ℕ) (n : ℕ) → 10 ≤ n → n < 2 ^ 64 → (front ++ decimal (n / 10)) ++ (48 + n % 10) ∷ [] ≡ front ++ decimal n
last_digit front n some bounded =
    append_assoc front (decimal (n / 10)) ((48 + n % 10) ∷ []) ∙ ap (λ (x : List ℕ). front ++ x) (sym (decimal_step n some bounded))
