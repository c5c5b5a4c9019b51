-- What follows a byte of the line of a step.
use Rattle.std.proofs.Common.{◌≡◌, ℕ, ◌+◌, ◌-◌, ◌*◌, ◌^◌, ◌<◌, ◌≤◌, ◌⊎◌, inl, inr, Bool}
use Rattle.std.proofs.Common.{true, false, List, [], ◌∷◌, ◌++◌, refl, sym, ap, subst, ◌∙◌, append_assoc, arith}
use Rattle.std.specs.Prelude.{All}
use Rattle.std.specs.Fmt.{decimal}
use Rattle.std.proofs.lemmas.List.Elements.{All-head, All-tail}
use Rattle.ygg_cnf.specs.declared.lit.Lit.{Lit}
use Rattle.ygg_cnf.specs.Steps.{IsNumber, IsLiteral}
use Rattle.ygg_cnf.specs.Spots.{BeginsNumbers, BeginsLiterals, EndsNumber, After, numbers_then, literals_then}
use Rattle.ygg_cnf.proofs.Decimals.{IsDigit, decimal_more, decimal_one, decimal_least, decimal_first, decimal_further, decimal_some}

-- the first of some bytes, and the others
head_same : (a b : ℕ) (xs ys : List ℕ) → a ∷ xs ≡ b ∷ ys → a ≡ b
head_same a b xs ys e = cc

tail_same : (a b : ℕ) (xs ys : List ℕ) → a ∷ xs ≡ b ∷ ys → xs ≡ ys
tail_same a b xs ys e = cc

-- what may follow the first digit of a number
pub first_digit : (Rest : List ℕ → Type 0) (b : ℕ) (bytes : List ℕ) → EndsNumber [] Rest (b ∷ bytes)
    → (48 < b) × (b < 58) × EndsNumber (decimal (b - 48)) Rest bytes
first_digit Rest b bytes ends = by_further ends.further ends.digits_are ends.is
  where
    by_further : (further : List ℕ) → decimal ends.number ≡ further → b ∷ bytes ≡ further ++ 32 ∷ ends.rest →
        (48 < b) × (b < 58) × EndsNumber (decimal (b - 48)) Rest bytes
    by_further [] digits is = absurd (decimal_some ends.number ends.may.1 digits)
    by_further (d ∷ ds) digits is =
        let same : b ≡ d = head_same b d bytes (ds ++ 32 ∷ ends.rest) is in
        let first = decimal_first ends.number d ds ends.may.0 ends.may.1 digits in
        let above : 48 < b = omega (arith, same, first.0) in
        let below : b < 58 = omega (arith, same, first.1) in
        let one : decimal (b - 48) ≡ b ∷ [] = decimal_one b (omega arith) below in (
          above,
          below,
          record {
            number = ends.number;
            further = ds;
            rest = ends.rest;
            may = ends.may;
            digits_are = digits ∙ ap (λ (x : ℕ). x ∷ ds) (sym same) ∙ ap (λ (x : List ℕ). x ++ ds) (sym one);
            is = tail_same b d bytes (ds ++ 32 ∷ ends.rest) is;
            goes_on = ends.goes_on;
          },
        )

-- what may follow the digits of a number so far: the space after them, or a further digit
pub next_digit : (Rest : List ℕ → Type 0) (n b : ℕ) (bytes : List ℕ) → IsNumber n → EndsNumber (decimal n) Rest (b ∷ bytes)
    → ((b ≡ 32) × Rest bytes) ⊎ (IsDigit b × (10 * n + (b - 48) < 2 ^ 64) × EndsNumber (decimal (10 * n + (b - 48))) Rest bytes)
next_digit Rest n b bytes is_number ends = by_further ends.further ends.digits_are ends.is
  where
    by_further : (further : List ℕ) → decimal ends.number ≡ decimal n ++ further → b ∷ bytes ≡ further ++ 32 ∷ ends.rest →
        ((b ≡ 32) × Rest bytes) ⊎ (IsDigit b × (10 * n + (b - 48) < 2 ^ 64) × EndsNumber (decimal (10 * n + (b - 48))) Rest bytes)
    by_further [] digits is =
        inl (head_same b 32 bytes ends.rest is, subst (λ (x : List ℕ). Rest x) (sym (tail_same b 32 bytes ends.rest is)) ends.goes_on)
    by_further (d ∷ ds) digits is =
        let same : b ≡ d = head_same b d bytes (ds ++ 32 ∷ ends.rest) is in
        let further = decimal_further ends.number n d ds ends.may.1 digits in
        let low : 48 ≤ b = omega (arith, same, further.0) in
        let high : b < 58 = omega (arith, same, further.1) in
        let least = decimal_least ends.number n d ds ends.may.1 is_number.1 digits in
        let small : 10 * n + (b - 48) < 2 ^ 64 = omega (arith, same, least, ends.may.1) in
        let more : decimal (10 * n + (b - 48)) ≡ decimal n ++ b ∷ [] = decimal_more n b is_number.0 low high small in
        inr (
          (low, high),
          small,
          record {
            number = ends.number;
            further = ds;
            rest = ends.rest;
            may = ends.may;
            digits_are = digits ∙ ap (λ (x : ℕ). decimal n ++ x ∷ ds) (sym same) ∙ sym (append_assoc (decimal n) (b ∷ []) ds)
                ∙ ap (λ (x : List ℕ). x ++ ds) (sym more);
            is = tail_same b d bytes (ds ++ 32 ∷ ends.rest) is;
            goes_on = ends.goes_on;
          },
        )

-- what may follow the first byte of numbers: the last 0, or a digit
pub numbers_on : (b : ℕ) (bytes : List ℕ) → BeginsNumbers (b ∷ bytes)
    → ((b ≡ 48) × After 10 (λ rest. Unit {0}) bytes) ⊎ EndsNumber [] BeginsNumbers (b ∷ bytes)
numbers_on b bytes begins = by_numbers begins.numbers begins.may begins.is
  where
    by_numbers : (numbers : List ℕ) → All IsNumber numbers → b ∷ bytes ≡ numbers_then numbers (48 ∷ 10 ∷ begins.others) →
        ((b ≡ 48) × After 10 (λ rest. Unit {0}) bytes) ⊎ EndsNumber [] BeginsNumbers (b ∷ bytes)
    by_numbers [] may is =
        inl (head_same b 48 bytes (10 ∷ begins.others) is, (begins.others, (tail_same b 48 bytes (10 ∷ begins.others) is, tt)))
    by_numbers (n ∷ ns) may is =
        inr (record {
          number = n;
          further = decimal n;
          rest = numbers_then ns (48 ∷ 10 ∷ begins.others);
          may = All-head IsNumber n ns may;
          digits_are = refl;
          is = is;
          goes_on = record { numbers = ns; others = begins.others; may = All-tail IsNumber n ns may; is = refl };
        })

-- what may follow the first byte of literals: the 0 after them, a `-`, or a digit
pub literals_on : (b : ℕ) (bytes : List ℕ) → BeginsLiterals (b ∷ bytes)
    → ((b ≡ 48) × After 32 BeginsNumbers bytes) ⊎ (((b ≡ 45) × EndsNumber [] BeginsLiterals bytes) ⊎ EndsNumber [] BeginsLiterals (b ∷ bytes))
literals_on b bytes begins = by_literals begins.literals begins.may begins.is
  where
    by_literals : (literals : List Lit) → All IsLiteral literals → b ∷ bytes ≡ literals_then literals (48 ∷ 32 ∷ begins.after) →
        ((b ≡ 48) × After 32 BeginsNumbers bytes) ⊎ (((b ≡ 45) × EndsNumber [] BeginsLiterals bytes) ⊎ EndsNumber [] BeginsLiterals (b ∷ bytes))
    by_literals [] may is =
        inl (head_same b 48 bytes (32 ∷ begins.after) is, (begins.after, (tail_same b 48 bytes (32 ∷ begins.after) is, begins.rest)))
    by_literals (x ∷ xs) may is = inr (by_sign x.negated refl)
      where
        others : BeginsLiterals (literals_then xs (48 ∷ 32 ∷ begins.after))
        others = record { literals = xs; after = begins.after; may = All-tail IsLiteral x xs may; rest = begins.rest; is = refl }

        number : (text : List ℕ) → text ≡ decimal x.var ++ 32 ∷ literals_then xs (48 ∷ 32 ∷ begins.after) → EndsNumber [] BeginsLiterals text
        number text e = record {
          number = x.var;
          further = decimal x.var;
          rest = literals_then xs (48 ∷ 32 ∷ begins.after);
          may = All-head IsLiteral x xs may;
          digits_are = refl;
          is = e;
          goes_on = others;
        }

        by_sign : (negated : Bool) → x.negated ≡ negated → ((b ≡ 45) × EndsNumber [] BeginsLiterals bytes) ⊎ EndsNumber [] BeginsLiterals (b ∷ bytes)
        by_sign true e =
            let whole : b ∷ bytes ≡ 45 ∷ (decimal x.var ++ 32 ∷ literals_then xs (48 ∷ 32 ∷ begins.after)) = rw e at is in
            inl (head_same b 45 bytes _ whole, number bytes (tail_same b 45 bytes _ whole))
        by_sign false e = let whole : b ∷ bytes ≡ decimal x.var ++ 32 ∷ literals_then xs (48 ∷ 32 ∷ begins.after) = rw e at is in inr (number (b ∷ bytes) whole)
