-- Numbers of lists of bits, under values of their variables.
use Rattle.std.proofs.Common.{
  ◌≡◌,
  ◌<◌,
  ◌≤◌,
  ℕ,
  zero,
  suc,
  ◌+◌,
  ◌-◌,
  ◌*◌,
  ◌/◌,
  ◌%◌,
  ◌^◌,
  Bool,
  true,
  false,
  not,
  List,
  [],
  ◌∷◌,
  ◌++◌,
  length,
  take,
  drop,
  replicate,
  ⊎_elim,
  sym,
  subst,
  ap,
  ◌∙◌,
  arith,
  refl,
}
use Rattle.std.proofs.lemmas.Bool.{cases_lt}
use Rattle.std.proofs.lemmas.List.{length-take, length-replicate, take-append-drop, take_all}
use Rattle.std.proofs.lemmas.Nat.{mod_low, shr_high, mod-pow-add, shl-shr}
use Rattle.std.proofs.Math.Nat.{pow-suc, mod-eq_of_lt, mul_comm, mul_assoc, pow-le-pow_right, mul-mod_left}
use Rattle.ygg_cnf.specs.declared.lit.Lit.{Lit}
use Rattle.ygg_value.specs.Words.{bit_of}
use Rattle.ygg_gates.specs.Circuits.{true_literal, false_literal, complements}
use Rattle.ygg_gates.specs.Rows.{resized_bits, moved_up, moved_down}
use Rattle.ygg_gates.proofs.Truths.{value_of, value_of-complement}
use Rattle.ygg_gates.proofs.Following.{Below, SameBelow, same_literal}

-- the number of the bits, the lowest first
abbrev pub number : (ℕ → Bool) → List Lit → ℕ
number v [] = 0
number v (x ∷ xs) = bit_of (value_of v x) + 2 * number v xs

-- all literals are of variables below a number
abbrev pub AllBelow : ℕ → List Lit → Type 0
AllBelow n [] = Unit {0}
AllBelow n (x ∷ xs) = Below n x × AllBelow n xs

-- so many bits, of variables below a number
pub record AreBits (width n : ℕ) (xs : List Lit) : Type 0 where
  pub count : length xs ≡ width
  pub below : AllBelow n xs

pub all_below_more : (n m : ℕ) (xs : List Lit) → n ≤ m → AllBelow n xs → AllBelow m xs
all_below_more n m [] l h = tt
all_below_more n m (x ∷ xs) l h = (let b = h.0 in omega arith, all_below_more n m xs l h.1)

pub bits_more : (width n m : ℕ) (xs : List Lit) → n ≤ m → AreBits width n xs → AreBits width m xs
bits_more width n m xs l d = record { count = d.count; below = all_below_more n m xs l d.below }

pub all_below_append : (n : ℕ) (xs ys : List Lit) → AllBelow n xs → AllBelow n ys → AllBelow n (xs ++ ys)
all_below_append n [] ys h k = k
all_below_append n (x ∷ xs) ys h k = (h.0, all_below_append n xs ys h.1 k)

pub all_below_replicate : (n k : ℕ) (x : Lit) → Below n x → AllBelow n (replicate k x)
all_below_replicate n zero x h = tt
all_below_replicate n (suc k) x h = (h, all_below_replicate n k x h)

pub all_below_take : (n k : ℕ) (xs : List Lit) → AllBelow n xs → AllBelow n (take k xs)
all_below_take n zero xs h = tt
all_below_take n (suc k) [] h = tt
all_below_take n (suc k) (x ∷ xs) h = (h.0, all_below_take n k xs h.1)

pub all_below_drop : (n k : ℕ) (xs : List Lit) → AllBelow n xs → AllBelow n (drop k xs)
all_below_drop n zero xs h = h
all_below_drop n (suc k) [] h = tt
all_below_drop n (suc k) (x ∷ xs) h = all_below_drop n k xs h.1

pub all_below_complements : (n : ℕ) (xs : List Lit) → AllBelow n xs → AllBelow n (complements xs)
all_below_complements n [] h = tt
all_below_complements n (x ∷ xs) h = (h.0, all_below_complements n xs h.1)

-- the same values give the same number
pub same_number : (n : ℕ) (v u : ℕ → Bool) (xs : List Lit) → SameBelow n v u → AllBelow n xs → number v xs ≡ number u xs
same_number n v u [] s h = refl
same_number n v u (x ∷ xs) s h = rw (same_literal n v u x s h.0, same_number n v u xs s h.1) refl

pub double : (k : ℕ) → 2 ^ suc k ≡ 2 * 2 ^ k
double k = pow-suc 2 k ∙ mul_comm (2 ^ k) 2

pub double_times : (k m : ℕ) → 2 ^ suc k * m ≡ 2 * (2 ^ k * m)
double_times k m = ap (λ z. z * m) (double k) ∙ mul_assoc 2 (2 ^ k) m

pub bit_small : (b : Bool) → bit_of b < 2
bit_small true = omega arith
bit_small false = omega arith

pub number_below : (v : ℕ → Bool) (xs : List Lit) → number v xs < 2 ^ length xs
number_below v [] = omega arith
number_below v (x ∷ xs) = let b = bit_small (value_of v x) in let r = number_below v xs in let d = double (length xs) in omega (arith, b, r, d)

pub bits_below : (v : ℕ → Bool) (w n : ℕ) (xs : List Lit) → AreBits w n xs → number v xs < 2 ^ w
bits_below v w n xs d = subst (λ k. number v xs < 2 ^ k) d.count (number_below v xs)

bit_not : (b : Bool) → bit_of (not b) + bit_of b ≡ 1
bit_not true = refl
bit_not false = refl

-- the complements' number
pub number_complements : (v : ℕ → Bool) (xs : List Lit) → number v (complements xs) + number v xs + 1 ≡ 2 ^ length xs
number_complements v [] = refl
number_complements v (x ∷ xs) =
    let e = ap bit_of (value_of-complement v x) in
    let b = bit_not (value_of v x) in
    let r = number_complements v xs in
    let d = double (length xs) in
    omega (arith, e, b, r, d)

pub number_append : (v : ℕ → Bool) (xs ys : List Lit) → number v (xs ++ ys) ≡ number v xs + 2 ^ length xs * number v ys
number_append v [] ys = omega arith
number_append v (x ∷ xs) ys = let r = number_append v xs ys in let d = double_times (length xs) (number v ys) in omega (arith, r, d)

pub false_bit : (v : ℕ → Bool) → v 1 ≡ true → bit_of (value_of v false_literal) ≡ 0
false_bit v t = rw t refl

pub true_bit : (v : ℕ → Bool) → v 1 ≡ true → bit_of (value_of v true_literal) ≡ 1
true_bit v t = rw t refl

pub number_falses : (v : ℕ → Bool) (k : ℕ) → v 1 ≡ true → number v (replicate k false_literal) ≡ 0
number_falses v zero t = refl
number_falses v (suc k) t = let e = false_bit v t in let r = number_falses v k t in omega (arith, e, r)

-- the low bits and the high ones
pub number_split : (v : ℕ → Bool) (k : ℕ) (xs : List Lit) → k ≤ length xs → number v (drop k xs) * 2 ^ k + number v (take k xs) ≡ number v xs
number_split v k xs l =
    let count : length (take k xs) ≡ k = omega (arith, length-take k xs) in
    let e : number v (take k xs ++ drop k xs) ≡ number v (take k xs) + 2 ^ k * number v (drop k xs)
    = number_append v (take k xs) (drop k xs) ∙ ap (λ z. number v (take k xs) + 2 ^ z * number v (drop k xs)) count in
    let c = mul_comm (2 ^ k) (number v (drop k xs)) in
    let w = ap (number v) (take-append-drop k xs) in
    omega (arith, e, c, w)

take_below : (v : ℕ → Bool) (k : ℕ) (xs : List Lit) → k ≤ length xs → number v (take k xs) < 2 ^ k
take_below v k xs l = let count : length (take k xs) ≡ k = omega (arith, length-take k xs) in
    subst (λ z. number v (take k xs) < 2 ^ z) count (number_below v (take k xs))

pub number_drop : (v : ℕ → Bool) (k : ℕ) (xs : List Lit) → k ≤ length xs → number v (drop k xs) ≡ number v xs / 2 ^ k
number_drop v k xs l = sym (ap (λ z. z / 2 ^ k) (sym (number_split v k xs l)) ∙ shr_high (number v (drop k xs)) k (number v (take k xs)) (take_below v k xs l))

pub number_take : (v : ℕ → Bool) (k : ℕ) (xs : List Lit) → number v (take k xs) ≡ number v xs % 2 ^ k
number_take v k xs =
    ⊎_elim
    (λ (l : k < length xs).
    let m : k ≤ length xs = omega arith in
    sym (ap (λ z. z % 2 ^ k) (sym (number_split v k xs m)) ∙ mod_low (number v (drop k xs)) k (number v (take k xs)) (take_below v k xs m)))
    (λ (l : length xs ≤ k).
    let fits : number v xs < 2 ^ k = (let b = number_below v xs in let p = pow-le-pow_right {n = 2} (omega arith) {i = length xs} {j = k} l in omega arith) in
    ap (number v) (take_all k xs l) ∙ sym (mod-eq_of_lt fits))
    (cases_lt k (length xs))

falses_after : (v : ℕ → Bool) (xs : List Lit) (k : ℕ) → v 1 ≡ true → number v (xs ++ replicate k false_literal) ≡ number v xs
falses_after v xs k t =
    number_append v xs (replicate k false_literal) ∙ ap (λ z. number v xs + 2 ^ length xs * z) (number_falses v k t) ∙ none (number v xs) (2 ^ length xs) where
      none : (a p : ℕ) → a + p * 0 ≡ a
      none a p = omega arith

pub number_resized : (v : ℕ → Bool) (w : ℕ) (xs : List Lit) → v 1 ≡ true → number v (resized_bits w xs) ≡ number v xs % 2 ^ w
number_resized v w xs t = falses_after v (take w xs) (w - length xs) t ∙ number_take v w xs

pub number_moved_down : (v : ℕ → Bool) (k : ℕ) (xs : List Lit) → v 1 ≡ true → k ≤ length xs → number v (moved_down k xs) ≡ number v xs / 2 ^ k
number_moved_down v k xs t l = falses_after v (drop k xs) k t ∙ number_drop v k xs l

-- a number moved up, cut to a width
moved_mod : (a j k : ℕ) → (a * 2 ^ k) % 2 ^ (j + k) ≡ (a % 2 ^ j) * 2 ^ k
moved_mod a j k =
    let none : (a * 2 ^ k) % 2 ^ k ≡ 0 = mul-mod_left a (2 ^ k) in
    mod-pow-add (a * 2 ^ k) j k ∙ ap (λ z. (z % 2 ^ j) * 2 ^ k + (a * 2 ^ k) % 2 ^ k) (shl-shr a k) ∙ ap (λ z. (a % 2 ^ j) * 2 ^ k + z) none
    ∙ last ((a % 2 ^ j) * 2 ^ k) where
      last : (n : ℕ) → n + 0 ≡ n
      last n = omega arith

pub number_moved_up : (v : ℕ → Bool) (k : ℕ) (xs : List Lit) → v 1 ≡ true → k ≤ length xs → number v (moved_up k xs) ≡ (number v xs * 2 ^ k) % 2 ^ length xs
number_moved_up v k xs t l =
    let j : ℕ = length xs - k in
    let all : j + k ≡ length xs = omega arith in
    let low : 2 ^ length (replicate k false_literal) ≡ 2 ^ k = ap (λ z. 2 ^ z) (length-replicate k false_literal) in
    let z = number_falses v k t in
    let front : number v (replicate k false_literal ++ take j xs) ≡ 2 ^ k * number v (take j xs)
    = number_append v (replicate k false_literal) (take j xs) ∙ ap (λ p. p + 2 ^ length (replicate k false_literal) * number v (take j xs)) z
    ∙ ap (λ p. 0 + p * number v (take j xs)) low ∙ first (2 ^ k * number v (take j xs)) in
    front ∙ ap (λ p. 2 ^ k * p) (number_take v j xs) ∙ mul_comm (2 ^ k) (number v xs % 2 ^ j) ∙ sym (moved_mod (number v xs) j k)
    ∙ ap (λ p. (number v xs * 2 ^ k) % 2 ^ p) all where
      first : (n : ℕ) → 0 + n ≡ n
      first n = omega arith
