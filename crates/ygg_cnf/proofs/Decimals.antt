-- Decimal digits: what they begin with, and what one more digit means.
use Rattle.std.proofs.Common.{◌≡◌, ℕ, ◌+◌, ◌-◌, ◌*◌, ◌/◌, ◌%◌, ◌^◌, ◌<◌, ◌≤◌, List, [], ◌∷◌, ◌++◌, length, get_or, refl, sym, ap, subst, ◌∙◌, arith}
use Rattle.std.specs.Prelude.{All}
use Rattle.std.specs.Fmt.{decimal}
use Rattle.std.proofs.lemmas.Fmt.{decimal_digit, decimal_step, decimal_by_steps, decimal_nonempty, first_decimal}
use Rattle.std.proofs.lemmas.List.Elements.{All-nil, All-cons, All-head, All-tail, All-append}

-- a decimal digit
abbrev pub IsDigit : ℕ → Type 0
IsDigit b = (48 ≤ b) × (b < 58)

-- the digits of a number are digits
pub decimal_digits : (n : ℕ) → n < 2 ^ 64 → All IsDigit (decimal n)
decimal_digits n small = decimal_by_steps (λ m ds. All IsDigit ds) one more n small
  where
    one : (m : ℕ) → m < 10 → All IsDigit ((48 + m) ∷ [])
    one m few = All-cons IsDigit (48 + m) [] (omega arith, omega arith) (All-nil IsDigit)

    more : (m : ℕ) (ds : List ℕ) → 10 ≤ m → All IsDigit ds → All IsDigit (ds ++ ((48 + m % 10) ∷ []))
    more m ds some are =
        All-append IsDigit ds ((48 + m % 10) ∷ []) are (All-cons IsDigit (48 + m % 10) [] (omega arith, omega arith) (All-nil IsDigit))

-- the number that digits give after those of another
pub value_on : ℕ → List ℕ → ℕ
value_on n [] = n
value_on n (d ∷ ds) = value_on (10 * n + (d - 48)) ds

value_append : (n : ℕ) (xs ys : List ℕ) → value_on n (xs ++ ys) ≡ value_on (value_on n xs) ys
unfolding value_on
value_append n [] ys = refl
value_append n (x ∷ xs) ys = value_append (10 * n + (x - 48)) xs ys

value_le : (n : ℕ) (ds : List ℕ) → n ≤ value_on n ds
unfolding value_on
value_le n [] = omega arith
value_le n (d ∷ ds) = omega (arith, value_le (10 * n + (d - 48)) ds)

-- the number that one digit gives after those of another
value_last : (k d : ℕ) → value_on k (d ∷ []) ≡ 10 * k + (d - 48)
unfolding value_on
value_last k d = refl

value_first : (k d : ℕ) (ds : List ℕ) → value_on k (d ∷ ds) ≡ value_on (10 * k + (d - 48)) ds
unfolding value_on
value_first k d ds = refl

-- the digits of a number give it
value_decimal : (n : ℕ) → n < 2 ^ 64 → value_on 0 (decimal n) ≡ n
value_decimal n small = decimal_by_steps (λ m ds. value_on 0 ds ≡ m) one more n small
  where
    one : (m : ℕ) → m < 10 → value_on 0 ((48 + m) ∷ []) ≡ m
    one m few = omega (arith, value_last 0 (48 + m))

    more : (m : ℕ) (ds : List ℕ) → 10 ≤ m → value_on 0 ds ≡ m / 10 → value_on 0 (ds ++ ((48 + m % 10) ∷ [])) ≡ m
    more m ds some is =
        let joined : value_on 0 (ds ++ ((48 + m % 10) ∷ [])) ≡ 10 * value_on 0 ds + (48 + m % 10 - 48) =
        value_append 0 ds ((48 + m % 10) ∷ []) ∙ value_last (value_on 0 ds) (48 + m % 10) in
        omega (arith, joined, is)

-- one more digit
pub decimal_more : (n d : ℕ) → 0 < n → 48 ≤ d → d < 58 → 10 * n + (d - 48) < 2 ^ 64 → decimal (10 * n + (d - 48)) ≡ decimal n ++ d ∷ []
decimal_more n d some low high small =
    let tenth : (10 * n + (d - 48)) / 10 ≡ n = omega arith in
    let rest : 48 + (10 * n + (d - 48)) % 10 ≡ d = omega arith in
    decimal_step (10 * n + (d - 48)) (omega arith) small
    ∙ ap (λ (x : ℕ). decimal x ++ ((48 + (10 * n + (d - 48)) % 10) ∷ [])) tenth
    ∙ ap (λ (x : ℕ). decimal n ++ (x ∷ [])) rest

-- a single digit
pub decimal_one : (d : ℕ) → 48 ≤ d → d < 58 → decimal (d - 48) ≡ d ∷ []
decimal_one d low high =
    let back : 48 + (d - 48) ≡ d = omega arith in
    decimal_digit (d - 48) (omega arith) ∙ ap (λ (x : ℕ). x ∷ []) back

-- a number whose digits begin with those of another and a digit more is as great as these make it
pub decimal_least : (v n d : ℕ) (ds : List ℕ) → v < 2 ^ 64 → n < 2 ^ 64 → decimal v ≡ decimal n ++ d ∷ ds → 10 * n + (d - 48) ≤ v
decimal_least v n d ds small bounded is =
    let value : v ≡ value_on (10 * n + (d - 48)) ds =
    sym (value_decimal v small) ∙ ap (value_on 0) is ∙ value_append 0 (decimal n) (d ∷ ds)
    ∙ ap (λ (x : ℕ). value_on x (d ∷ ds)) (value_decimal n bounded)
    ∙ value_first n d ds in
    omega (arith, value, value_le (10 * n + (d - 48)) ds)

-- a number above 0 begins with a digit above 0
pub decimal_first : (v d : ℕ) (ds : List ℕ) → 0 < v → v < 2 ^ 64 → decimal v ≡ d ∷ ds → (48 < d) × (d < 58)
decimal_first v d ds some small is =
    let digits : All IsDigit (d ∷ ds) = subst (λ (x : List ℕ). All IsDigit x) is (decimal_digits v small) in
    let digit = All-head IsDigit d ds digits in
    let above : 48 < get_or (d ∷ ds) 0 0 = subst (λ (x : List ℕ). 48 < get_or x 0 0) is (first_decimal v some small) in
    (above, digit.1)

-- a further digit is a digit
pub decimal_further : (v n d : ℕ) (ds : List ℕ) → v < 2 ^ 64 → decimal v ≡ decimal n ++ d ∷ ds → IsDigit d
decimal_further v n d ds small is =
    let digits : All IsDigit (decimal n ++ d ∷ ds) = subst (λ (x : List ℕ). All IsDigit x) is (decimal_digits v small) in
    All-head IsDigit d ds (second (decimal n) (d ∷ ds) digits)
  where
    second : (xs ys : List ℕ) → All IsDigit (xs ++ ys) → All IsDigit ys
    second [] ys are = are
    second (x ∷ xs) ys are = second xs ys (All-tail IsDigit x (xs ++ ys) are)

-- a number has a digit
pub decimal_some : (v : ℕ) → v < 2 ^ 64 → decimal v ≡ [] → ⊥
decimal_some v small none =
    let some : 0 < length (decimal v) = decimal_nonempty v small in
    let empty : length (decimal v) ≡ 0 = ap length none in
    omega arith
