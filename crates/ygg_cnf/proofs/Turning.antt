-- Where each byte leads.
use Rattle.std.proofs.Common.{◌≡◌, ℕ, ◌+◌, ◌-◌, ◌*◌, ◌^◌, ◌<◌, ◌≤◌, ◌⊎◌, inl, inr, Bool}
use Rattle.std.proofs.Common.{true, false, List, [], ◌∷◌, ◌++◌, refl, sym, ap, ◌∙◌, append_assoc, arith}
use Rattle.std.specs.Prelude.{codes}
use Rattle.std.specs.Fmt.{decimal}
use Rattle.std.proofs.lemmas.List.{append-nil}
use Rattle.ygg_cnf.specs.declared.lit.Lit.{Lit}
use Rattle.ygg_cnf.specs.Lines.{literal_word, literal_words, number_words}
use Rattle.ygg_cnf.specs.declared.spot.Spot.TheVariants as spot
use Rattle.ygg_cnf.specs.declared.spot.SpotTurn.TheVariants as turn
use Rattle.ygg_cnf.specs.Steps.{IsNumber}
use Rattle.ygg_cnf.specs.Spots.{Turns, After, EndsNumber, BeginsNumbers, BeginsLiterals}
use Rattle.ygg_cnf.proofs.Decimals.{decimal_one, decimal_more}
use Rattle.ygg_cnf.proofs.Words.{literals_more, numbers_more}
use Rattle.ygg_cnf.proofs.Leading.{first_digit, next_digit, numbers_on, literals_on}

-- two choices, one of which is impossible
other_one : {A B : Type 0} → A ⊎ B → (A → ⊥) → B
other_one (inl a) never = absurd (never a)
other_one (inr b) never = b

this_one : {A B : Type 0} → A ⊎ B → (B → ⊥) → A
this_one (inl a) never = a
this_one (inr b) never = absurd (never b)

-- a byte that must be this one
after_this : (b : ℕ) (Rest : List ℕ → Type 0) (bytes : List ℕ) → After b Rest (b ∷ bytes) → Rest bytes
after_this b Rest bytes (rest, (is, goes)) = let same : rest ≡ bytes = cc in rw (← same) goes

not_after : (b wanted : ℕ) (Rest : List ℕ → Type 0) (bytes : List ℕ) → (b ≡ wanted → ⊥) → After wanted Rest (b ∷ bytes) → ⊥
not_after b wanted Rest bytes other (rest, (is, goes)) = let same : b ≡ wanted = cc in other same

-- the places with one byte
pub begin_c : Turns spot.Begin 99 (turn.To spot.Opened)
begin_c = record {
  front = λ clause chain bare. refl;
  bare = λ clause chain bare. bare;
  on = λ bytes. after_this 99 (After 32 BeginsLiterals) bytes;
  is = tt;
}

pub begin_other : (b : ℕ) → (b ≡ 99 → ⊥) → Turns spot.Begin b turn.Wrong
begin_other b other bytes = not_after b 99 (After 32 BeginsLiterals) bytes other

pub opened_space : Turns spot.Opened 32 (turn.To spot.Literal)
opened_space = record {
  front = λ clause chain bare. ap (λ (x : List Lit). codes "c " ++ literal_words x) bare.0;
  bare = λ clause chain bare. bare.1;
  on = λ bytes. after_this 32 BeginsLiterals bytes;
  is = tt;
}

pub opened_other : (b : ℕ) → (b ≡ 32 → ⊥) → Turns spot.Opened b turn.Wrong
opened_other b other bytes = not_after b 32 BeginsLiterals bytes other

pub middle_space : Turns spot.Middle 32 (turn.To spot.Number)
middle_space = record {
  front = λ clause chain bare.
      ap (λ (x : List ℕ). codes "c " ++ literal_words clause ++ codes "0 " ++ number_words x) bare
      ∙ append-nil (codes "c " ++ literal_words clause ++ codes "0 ")
      ∙ sym (append_assoc (codes "c " ++ literal_words clause) (codes "0") (32 ∷ []));
  bare = λ clause chain bare. tt;
  on = λ bytes. after_this 32 BeginsNumbers bytes;
  is = tt;
}

pub middle_other : (b : ℕ) → (b ≡ 32 → ⊥) → Turns spot.Middle b turn.Wrong
middle_other b other bytes = not_after b 32 BeginsNumbers bytes other

pub end_feed : Turns spot.End 10 turn.Whole
end_feed clause chain = append_assoc (codes "c " ++ literal_words clause ++ codes "0 " ++ number_words chain) (codes "0") (10 ∷ [])

pub end_other : (b : ℕ) → (b ≡ 10 → ⊥) → Turns spot.End b turn.Wrong
end_other b other bytes = not_after b 10 (λ rest. Unit {0}) bytes other

-- before a literal
pub literal_minus : Turns spot.Literal 45 (turn.To spot.Minus)
literal_minus = record { front = λ clause chain bare. refl; bare = λ clause chain bare. bare; on = on; is = tt }
  where
    no_digit : (bytes : List ℕ) → EndsNumber [] BeginsLiterals (45 ∷ bytes) → ⊥
    no_digit bytes ends = let first = first_digit BeginsLiterals 45 bytes ends in omega (arith, first.0)

    on : (bytes : List ℕ) → BeginsLiterals (45 ∷ bytes) → EndsNumber [] BeginsLiterals bytes
    on bytes begins =
        (this_one (other_one (literals_on 45 bytes begins) (λ zero. let e = zero.0 in omega arith)) (no_digit bytes)).1

pub literal_zero : Turns spot.Literal 48 (turn.To spot.Middle)
literal_zero = record { front = λ clause chain bare. refl; bare = λ clause chain bare. bare; on = on; is = tt }
  where
    no_other : (b : ℕ) (bytes : List ℕ) → b ≡ 48 → ((b ≡ 45) × EndsNumber [] BeginsLiterals bytes) ⊎ EndsNumber [] BeginsLiterals (b ∷ bytes) → ⊥
    no_other b bytes zero (inl minus) = let e = minus.0 in omega arith
    no_other b bytes zero (inr ends) = let first = first_digit BeginsLiterals b bytes ends in omega (arith, first.0)

    on : (bytes : List ℕ) → BeginsLiterals (48 ∷ bytes) → After 32 BeginsNumbers bytes
    on bytes begins = (this_one (literals_on 48 bytes begins) (no_other 48 bytes refl)).1

literal_first : (b : ℕ) → 48 < b → b < 58 → Turns spot.Literal b (turn.To (spot.Variable false (b - 48)))
literal_first b above below = record {
  front = λ clause chain bare. ap (λ (x : List ℕ). codes "c " ++ literal_words clause ++ x) (decimal_one b (omega arith) below);
  bare = λ clause chain bare. bare;
  on = on;
  is = (omega arith, omega arith);
}
  where
    on : (bytes : List ℕ) → BeginsLiterals (b ∷ bytes) → EndsNumber (decimal (b - 48)) BeginsLiterals bytes
    on bytes begins =
        (first_digit BeginsLiterals b bytes (other_one (other_one (literals_on b bytes begins) (λ zero. let e = zero.0 in omega arith))
        (λ minus. let e = minus.0 in omega arith))).2

pub literal_digit : (b m : ℕ) → 48 < b → b < 58 → m ≡ b - 48 → Turns spot.Literal b (turn.To (spot.Variable false m))
literal_digit b m above below e = rw e (literal_first b above below)

-- before a literal: no byte that begins one
pub literal_other : (b : ℕ) → (b ≡ 45 → ⊥) → (b ≡ 48 → ⊥) → (48 < b → b < 58 → ⊥) → Turns spot.Literal b turn.Wrong
literal_other b minus zero digit bytes begins =
    let first =
    first_digit BeginsLiterals b bytes (other_one (other_one (literals_on b bytes begins) (λ z. zero z.0)) (λ m. minus m.0)) in
    digit first.0 first.1

-- after a minus
minus_first : (b : ℕ) → 48 < b → b < 58 → Turns spot.Minus b (turn.To (spot.Variable true (b - 48)))
minus_first b above below = record {
  front = λ clause chain bare.
      ap (λ (x : List ℕ). codes "c " ++ literal_words clause ++ 45 ∷ x) (decimal_one b (omega arith) below)
      ∙ sym (append_assoc (codes "c " ++ literal_words clause) (codes "-") (b ∷ []));
  bare = λ clause chain bare. bare;
  on = λ bytes ends. (first_digit BeginsLiterals b bytes ends).2;
  is = (omega arith, omega arith);
}

pub minus_digit : (b m : ℕ) → 48 < b → b < 58 → m ≡ b - 48 → Turns spot.Minus b (turn.To (spot.Variable true m))
minus_digit b m above below e = rw e (minus_first b above below)

pub minus_other : (b : ℕ) → (48 < b → b < 58 → ⊥) → Turns spot.Minus b turn.Wrong
minus_other b digit bytes ends = let first = first_digit BeginsLiterals b bytes ends in digit first.0 first.1

-- before the number of a clause
pub number_zero : Turns spot.Number 48 (turn.To spot.End)
number_zero = record { front = λ clause chain bare. refl; bare = λ clause chain bare. tt; on = on; is = tt }
  where
    on : (bytes : List ℕ) → BeginsNumbers (48 ∷ bytes) → After 10 (λ rest. Unit {0}) bytes
    on bytes begins =
        (this_one (numbers_on 48 bytes begins) (λ ends. let first = first_digit BeginsNumbers 48 bytes ends in omega (arith, first.0))).1

number_first : (b : ℕ) → 48 < b → b < 58 → Turns spot.Number b (turn.To (spot.Digits (b - 48)))
number_first b above below = record {
  front = λ clause chain bare.
      ap (λ (x : List ℕ). codes "c " ++ literal_words clause ++ codes "0 " ++ number_words chain ++ x) (decimal_one b (omega arith) below);
  bare = λ clause chain bare. tt;
  on = λ bytes begins. (first_digit BeginsNumbers b bytes (other_one (numbers_on b bytes begins) (λ zero. let e = zero.0 in omega arith))).2;
  is = (omega arith, omega arith);
}

pub number_digit : (b m : ℕ) → 48 < b → b < 58 → m ≡ b - 48 → Turns spot.Number b (turn.To (spot.Digits m))
number_digit b m above below e = rw e (number_first b above below)

pub number_other : (b : ℕ) → (b ≡ 48 → ⊥) → (48 < b → b < 58 → ⊥) → Turns spot.Number b turn.Wrong
number_other b zero digit bytes begins =
    let first = first_digit BeginsNumbers b bytes (other_one (numbers_on b bytes begins) (λ z. zero z.0)) in
    digit first.0 first.1

-- the digits of a number: the space after them, a further one, and any other byte
space_on : (Rest : List ℕ → Type 0) (n : ℕ) (bytes : List ℕ) → IsNumber n → EndsNumber (decimal n) Rest (32 ∷ bytes) → Rest bytes
space_on Rest n bytes is ends = (this_one (next_digit Rest n 32 bytes is ends) (λ further. let low = further.0.0 in omega arith)).1

digit_on : (Rest : List ℕ → Type 0) (n b : ℕ) (bytes : List ℕ) → IsNumber n → 48 ≤ b → EndsNumber (decimal n) Rest (b ∷ bytes)
    → EndsNumber (decimal (10 * n + (b - 48))) Rest bytes
digit_on Rest n b bytes is low ends = (other_one (next_digit Rest n b bytes is ends) (λ space. let e = space.0 in omega arith)).2

no_digit_on : (Rest : List ℕ → Type 0) (n b : ℕ) (bytes : List ℕ) → IsNumber n → (b ≡ 32 → ⊥) → (48 ≤ b → b < 58 → 2 ^ 64 ≤ 10 * n + (b - 48))
    → EndsNumber (decimal n) Rest (b ∷ bytes) → ⊥
no_digit_on Rest n b bytes is other great ends =
    let further = other_one (next_digit Rest n b bytes is ends) (λ space. other space.0) in
    omega (arith, further.1, great further.0.0 further.0.1)

-- lists in other groups
assoc_two : (a b c d : List ℕ) → a ++ (b ++ c ++ d) ≡ a ++ b ++ c ++ d
assoc_two a b c d = sym (append_assoc a (b ++ c) d) ∙ ap (λ (x : List ℕ). x ++ d) (sym (append_assoc a b c))

-- the literal with one more digit
longer_word : (negated : Bool) (n b : ℕ) → 0 < n → 48 ≤ b → b < 58 → 10 * n + (b - 48) < 2 ^ 64
    → literal_word (record { var = 10 * n + (b - 48); negated = negated }) ≡ literal_word (record { var = n; negated = negated }) ++ b ∷ []
longer_word true n b some low high small = ap (λ (x : List ℕ). 45 ∷ x) (decimal_more n b some low high small)
longer_word false n b some low high small = decimal_more n b some low high small

-- in the digits of a variable
pub variable_space : (negated : Bool) (n : ℕ) → IsNumber n → Turns (spot.Variable negated n) 32 (turn.Literal (record { var = n; negated = negated }))
variable_space negated n is = (
  is,
  record {
    front = λ clause chain bare. ap (λ (x : List ℕ). codes "c " ++ x) (literals_more clause (record { var = n; negated = negated }))
        ∙ assoc_two (codes "c ") (literal_words clause) (literal_word (record { var = n; negated = negated })) (32 ∷ []);
    bare = λ clause chain bare. bare;
    on = λ bytes. space_on BeginsLiterals n bytes is;
    is = tt;
  },
)

pub variable_digit : (negated : Bool) (n m b : ℕ) → IsNumber n → 48 ≤ b → b < 58 → m ≡ 10 * n + (b - 48) → m < 2 ^ 64
    → Turns (spot.Variable negated n) b (turn.To (spot.Variable negated m))
variable_digit negated n m b is low high e small =
    let whole : 10 * n + (b - 48) < 2 ^ 64 = omega arith in
    let turns : Turns (spot.Variable negated n) b (turn.To (spot.Variable negated (10 * n + (b - 48)))) = record {
      front = λ clause chain bare. ap (λ (x : List ℕ). codes "c " ++ literal_words clause ++ x) (longer_word negated n b is.0 low high whole)
          ∙ sym (append_assoc (codes "c " ++ literal_words clause) (literal_word (record { var = n; negated = negated })) (b ∷ []));
      bare = λ clause chain bare. bare;
      on = λ bytes. digit_on BeginsLiterals n b bytes is low;
      is = (let some = is.0 in omega arith, whole);
    } in
    rw e turns

pub variable_other : (negated : Bool) (n b : ℕ) → IsNumber n → (b ≡ 32 → ⊥) → (48 ≤ b → b < 58 → 2 ^ 64 ≤ 10 * n + (b - 48))
    → Turns (spot.Variable negated n) b turn.Wrong
variable_other negated n b is other great bytes = no_digit_on BeginsLiterals n b bytes is other great

-- in the digits of the number of a clause
pub digits_space : (n : ℕ) → IsNumber n → Turns (spot.Digits n) 32 (turn.Number n)
digits_space n is = (
  is,
  record {
    front = λ clause chain bare. ap (λ (x : List ℕ). codes "c " ++ literal_words clause ++ codes "0 " ++ x) (numbers_more chain n)
        ∙ assoc_two (codes "c " ++ literal_words clause ++ codes "0 ") (number_words chain) (decimal n) (32 ∷ []);
    bare = λ clause chain bare. tt;
    on = λ bytes. space_on BeginsNumbers n bytes is;
    is = tt;
  },
)

pub digits_digit : (n m b : ℕ) → IsNumber n → 48 ≤ b → b < 58 → m ≡ 10 * n + (b - 48) → m < 2 ^ 64 → Turns (spot.Digits n) b (turn.To (spot.Digits m))
digits_digit n m b is low high e small =
    let whole : 10 * n + (b - 48) < 2 ^ 64 = omega arith in
    let turns : Turns (spot.Digits n) b (turn.To (spot.Digits (10 * n + (b - 48)))) = record {
      front = λ clause chain bare. ap (λ (x : List ℕ). codes "c " ++ literal_words clause ++ codes "0 " ++ number_words chain ++ x)
          (decimal_more n b is.0 low high whole)
          ∙ sym (append_assoc (codes "c " ++ literal_words clause ++ codes "0 " ++ number_words chain) (decimal n) (b ∷ []));
      bare = λ clause chain bare. tt;
      on = λ bytes. digit_on BeginsNumbers n b bytes is low;
      is = (let some = is.0 in omega arith, whole);
    } in
    rw e turns

pub digits_other : (n b : ℕ) → IsNumber n → (b ≡ 32 → ⊥) → (48 ≤ b → b < 58 → 2 ^ 64 ≤ 10 * n + (b - 48)) → Turns (spot.Digits n) b turn.Wrong
digits_other n b is other great bytes = no_digit_on BeginsNumbers n b bytes is other great
