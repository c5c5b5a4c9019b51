-- What is known of the number of some digits.
use Rattle.std.proofs.Common.{◌≡◌, ℕ, ◌+◌, ◌*◌, ◌-◌, ◌^◌, ◌<◌, ◌≤◌, true, false, List, [], ◌∷◌, drop, length, get_or, Some, None, ap, sym, ◌∙◌, if◌then◌else◌}
use Rattle.std.proofs.Common.{arith}
use Rattle.std.specs.Prelude.{◌&&◌, not, nat_lt}
use Rattle.std.proofs.lemmas.Bool.Decides.{nat_tests}
use Rattle.std.proofs.lemmas.List.{drop_more, drop_all}
use Rattle.ygg_base.specs.Lexing.{value_after, has_leading_zero, number_of}

-- further digits make no number smaller
pub value_after_le : (digits : List ℕ) (number : ℕ) → number ≤ value_after number digits
value_after_le [] number = omega arith
value_after_le (digit ∷ digits) number = omega (arith, value_after_le digits (10 * number + (digit - 48)))

-- a leading zero makes no number
pub leading : (digits : List ℕ) → true ≡ has_leading_zero digits → None ≡ number_of digits
leading digits zero = ap (λ t. if not t && nat_lt (value_after 0 digits) (2 ^ 64) then Some (value_after 0 digits) else None) zero

-- one more of the digits
pub one_digit : (digits : List ℕ) (i number longer : ℕ) → i < length digits → value_after number (drop i digits) ≡ value_after 0 digits →
    longer ≡ 10 * number + (get_or digits i 0 - 48) → value_after longer (drop (i + 1) digits) ≡ value_after 0 digits
one_digit digits i number longer within so_far is =
    ap (λ n. value_after n (drop (i + 1) digits)) is ∙ sym (ap (value_after number) (drop_more digits i 0 within)) ∙ so_far

-- too great a number before one of the digits
pub too_great : (digits : List ℕ) (i number : ℕ) → i < length digits → has_leading_zero digits ≡ false →
    value_after number (drop i digits) ≡ value_after 0 digits
    → 2 ^ 64 ≤ 10 * number + (get_or digits i 0 - 48) → number_of digits ≡ None
too_great digits i number within plain so_far great =
    let step : value_after number (get_or digits i 0 ∷ drop (i + 1) digits) ≡ value_after 0 digits = rw (drop_more digits i 0 within) at so_far in
    let least = value_after_le (drop (i + 1) digits) (10 * number + (get_or digits i 0 - 48)) in
    grind (arith, nat_tests)

-- the number after the last digit
pub all_digits : (digits : List ℕ) (i number : ℕ) → length digits ≤ i → has_leading_zero digits ≡ false → number < 2 ^ 64 →
    value_after number (drop i digits) ≡ value_after 0 digits
    → number_of digits ≡ Some number
all_digits digits i number past plain small so_far =
    let whole : number ≡ value_after 0 digits = rw (drop_all i digits past) at so_far in
    grind (arith, nat_tests)
