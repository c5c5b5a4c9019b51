-- A number in decimal digits is read again.
use Rattle.std.proofs.Common.{◌≡◌, ℕ, ◌+◌, ◌-◌, ◌*◌, ◌/◌, ◌%◌, ◌^◌, ◌<◌, ◌≤◌, Bool, true, false, List, [], ◌∷◌, ◌++◌, length, Some, refl, ◌∙◌, lit<, arith}
use Rattle.std.specs.Prelude.{nat_le, ◌==◌, ◌||◌}
use Rattle.std.specs.List.{list_all}
use Rattle.std.specs.Fmt.{decimal}
use Rattle.std.proofs.Math.Nat.{mod-lt}
use Rattle.std.proofs.lemmas.Bool.{and_from, and_parts}
use Rattle.std.proofs.lemmas.Bool.Decides.{nat_tests}
use Rattle.std.proofs.lemmas.List.Folds.{list_all-append}
use Rattle.std.proofs.lemmas.Fmt.{decimal_by_steps, length-decimal-le}
use Rattle.ygg_base.specs.Lexing.{is_digit, is_empty, value_after}
use Rattle.ygg_cnf.specs.declared.lit.Lit.{Lit}
use Rattle.ygg_cnf.specs.Lines.{literal_word}
use Rattle.ygg_dimacs.specs.Numbers.{number_in, literal, literal_in}

-- some digits that give this number
record IsDecimal (n : ℕ) (ds : List ℕ) : Type 0 where
  digits : list_all is_digit ds ≡ true
  value : value_after 0 ds ≡ n
  some : is_empty ds ≡ false

-- one digit more
value_push : (ds : List ℕ) (k d : ℕ) → value_after k (ds ++ d ∷ []) ≡ 10 * value_after k ds + (d - 48)
value_push [] k d = refl
value_push (x ∷ ds) k d = value_push ds (10 * k + (x - 48)) d

is_digit_at : (d : ℕ) → d < 10 → is_digit (48 + d) ≡ true
is_digit_at d small = grind (arith, nat_tests)

not_empty_push : (ds : List ℕ) (d : ℕ) → is_empty (ds ++ d ∷ []) ≡ false
not_empty_push [] d = refl
not_empty_push (x ∷ ds) d = refl

one : (n : ℕ) → n < 10 → IsDecimal n ((48 + n) ∷ [])
one n small = record {
  digits = and_from (is_digit (48 + n)) true (is_digit_at n small) refl;
  value = omega arith;
  some = refl;
}

more : (n : ℕ) (ds : List ℕ) → 10 ≤ n → IsDecimal (n / 10) ds → IsDecimal n (ds ++ (48 + n % 10) ∷ [])
more n ds great d =
    let last : n % 10 < 10 = mod-lt n (lit< tt) in
    record {
      digits = list_all-append is_digit ds ((48 + n % 10) ∷ [])
          ∙ and_from (list_all is_digit ds) (list_all is_digit ((48 + n % 10) ∷ [])) d.digits
          (and_from (is_digit (48 + n % 10)) true (is_digit_at (n % 10) last) refl);
      value = value_push ds 0 (48 + n % 10) ∙ omega (arith, d.value);
      some = not_empty_push ds (48 + n % 10);
    }

is_decimal : (n : ℕ) → n < 2 ^ 64 → IsDecimal n (decimal n)
is_decimal n small = decimal_by_steps IsDecimal one more n small

-- a number up to 10 digits
pub number_again : (greatest n : ℕ) → n ≤ greatest → n < 10 ^ 10 → number_in greatest (decimal n) ≡ Some n
number_again greatest n within few =
    let d = is_decimal n (omega arith) in
    let short : nat_le (length (decimal n)) 10 ≡ true = let l = length-decimal-le 10 n (lit< tt) few (omega arith) in grind (arith, nat_tests) in
    let fits : nat_le n greatest ≡ true = grind (arith, nat_tests) in
    rw (d.some, short, d.digits, d.value, fits) refl

-- a byte of a literal: a digit or `-`
abbrev pub is_literal_byte : ℕ → Bool
is_literal_byte b = is_digit b || b == 45

digits_are : (ds : List ℕ) → list_all is_digit ds ≡ true → list_all is_literal_byte ds ≡ true
digits_are [] all = refl
digits_are (d ∷ ds) all =
    let p = and_parts (is_digit d) (list_all is_digit ds) all in
    let here : is_literal_byte d ≡ true = rw p.0 refl in
    and_from (is_literal_byte d) (list_all is_literal_byte ds) here (digits_are ds p.1)

-- the bytes of a literal
pub literal_bytes : (x : Lit) → x.var < 2 ^ 64 → list_all is_literal_byte (literal_word x) ≡ true
literal_bytes x small = by_sign x.negated
  where
    by_sign : (b : Bool) → list_all is_literal_byte (literal_word (literal b x.var)) ≡ true
    by_sign true = digits_are (decimal x.var) (is_decimal x.var small).digits
    by_sign false = digits_are (decimal x.var) (is_decimal x.var small).digits

pub literal_some : (x : Lit) → x.var < 2 ^ 64 → is_empty (literal_word x) ≡ false
literal_some x small = by_sign x.negated
  where
    by_sign : (b : Bool) → is_empty (literal_word (literal b x.var)) ≡ false
    by_sign true = refl
    by_sign false = (is_decimal x.var small).some

-- digits don't begin with `-`
plain : (variables n : ℕ) (ds : List ℕ) → list_all is_digit ds ≡ true → is_empty ds ≡ false → number_in variables ds ≡ Some n →
    literal_in variables ds ≡ Some (literal false n)
plain variables n [] all some is = absurd (cc some)
plain variables n (d ∷ ds) all some is =
    let p = and_parts (is_digit d) (list_all is_digit ds) all in
    let other : (d == 45) ≡ false = grind (arith, nat_tests, p.0) in
    rw (other, is) refl

-- a literal is read again
pub literal_again : (variables : ℕ) (x : Lit) → x.var ≤ variables → x.var < 10 ^ 10 → literal_in variables (literal_word x) ≡ Some x
literal_again variables x within few = by_sign x.negated
  where
    by_sign : (b : Bool) → literal_in variables (literal_word (literal b x.var)) ≡ Some (literal b x.var)
    by_sign true = rw (number_again variables x.var within few) refl
    by_sign false =
        let d = is_decimal x.var (omega arith) in plain variables x.var (decimal x.var) d.digits d.some (number_again variables x.var within few)

-- the number 0
pub zero_again : (variables : ℕ) → literal_in variables (48 ∷ []) ≡ Some (literal false 0)
zero_again variables = let fits : nat_le 0 variables ≡ true = grind (arith, nat_tests) in rw fits refl

-- the digits of a number
pub decimal_digits : (n : ℕ) → n < 2 ^ 64 → list_all is_literal_byte (decimal n) ≡ true
decimal_digits n small = digits_are (decimal n) (is_decimal n small).digits

pub decimal_some : (n : ℕ) → n < 2 ^ 64 → is_empty (decimal n) ≡ false
decimal_some n small = (is_decimal n small).some
