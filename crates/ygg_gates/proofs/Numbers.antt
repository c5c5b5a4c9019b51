-- Loops over bits that make no gates.
use Rattle.std.proofs.Common.{
  ◌≡◌,
  ◌<◌,
  ◌≤◌,
  ◌^◌,
  ℕ,
  suc,
  ◌+◌,
  ◌-◌,
  ◌/◌,
  ◌%◌,
  true,
  false,
  nat_lt,
  ◌==◌,
  if◌then◌else◌,
  List,
  [],
  ◌∷◌,
  ◌++◌,
  length,
  drop,
  get_or,
  ⊎_elim,
  refl,
  sym,
  ap,
  ◌∙◌,
  subst,
  append_assoc,
  arith,
}
use Rattle.std.proofs.lemmas.Bool.{cases_lt}
use Rattle.std.proofs.lemmas.Bool.Decides.{nat_tests}
use Rattle.std.proofs.lemmas.List.{drop_more, drop_all, append-nil}
use Rattle.std.proofs.lemmas.Nat.{pow_pos, shr-shr}
use Rattle.std.proofs.Math.Nat.{div-eq_of_lt, div-lt_iff_lt-mul, div-one, pow-le-pow_right}
use Rattle.ygg_cnf.specs.declared.lit.Lit.{Lit}
use Rattle.ygg_gates.specs.Circuits.{true_literal, false_literal}
use Rattle.ygg_gates.specs.Rows.{constant_bits, near}

test_true : (m n : ℕ) → m < n → nat_lt m n ≡ true
test_true m n h = grind (arith, nat_tests)

test_false : (m n : ℕ) → n ≤ m → nat_lt m n ≡ false
test_false m n h = grind (arith, nat_tests)

-- a quotient that isn't 0
reaches_up : (n k : ℕ) → 0 < n / 2 ^ k → 2 ^ k ≤ n
reaches_up n k h =
    ⊎_elim (λ (l : n < 2 ^ k). absurd (let z : n / 2 ^ k ≡ 0 = div-eq_of_lt l in omega arith)) (λ (l : 2 ^ k ≤ n). l) (cases_lt n (2 ^ k))

-- a quotient that is 0
stays_below : (n k : ℕ) → n / 2 ^ k ≡ 0 → n < 2 ^ k
stays_below n k e = let l = (div-lt_iff_lt-mul {k = 2 ^ k} {x = n} {y = 1} (pow_pos k)).0 (omega arith) in omega arith

-- how many near bits there are: those so far, and those of the rest
pub record Nearing (width : ℕ) (ys : List Lit) (count rest : ℕ) : Type 0 where
  pub whole : near width 0 ys ≡ near width count (drop count ys) + count
  pub rest_is : rest ≡ (width - 1) / 2 ^ count
  pub below : (k : ℕ) → k < count → 2 ^ k < width
  pub within : count ≤ length ys

pub near_begins : (width : ℕ) (ys : List Lit) → Nearing width ys 0 (width - 1)
near_begins width ys = record { whole = omega arith; rest_is = sym (div-one (width - 1)); below = λ k l. absurd (omega arith); within = omega arith }

near_here : (width count : ℕ) (y : Lit) (ys : List Lit) → 2 ^ count < width → near width count (y ∷ ys) ≡ near width (count + 1) ys + 1
near_here width count y ys l = rw (test_true (2 ^ count) width l) refl

near_none : (width count : ℕ) (ys : List Lit) → width ≤ 2 ^ count → near width count ys ≡ 0
near_none width count [] l = refl
near_none width count (y ∷ ys) l = rw (test_false (2 ^ count) width l) refl

pub near_goes : (width : ℕ) (ys : List Lit) (count rest : ℕ) → count < length ys → 0 < rest → Nearing width ys count rest →
    Nearing width ys (count + 1) (rest / 2)
near_goes width ys count rest l p s =
    let some : 0 < (width - 1) / 2 ^ count = subst (λ z. 0 < z) s.rest_is p in
    let fits : 2 ^ count < width = let h = reaches_up (width - 1) count some in let q = pow_pos count in omega arith in
    let one : near width count (drop count ys) ≡ near width (count + 1) (drop (count + 1) ys) + 1
    = ap (near width count) (drop_more ys count (get_or ys count (record { var = 0; negated = false })) l)
    ∙ near_here width count (get_or ys count (record { var = 0; negated = false })) (drop (count + 1) ys) fits in
    let w = s.whole in
    record {
      whole = omega (arith, one, w);
      rest_is = ap (λ z. z / 2) s.rest_is ∙ shr-shr (width - 1) count 1;
      below = λ k h. ⊎_elim (λ (c : k < count). s.below k c)
          (λ (c : count ≤ k). let e : k ≡ count = omega arith in subst (λ z. 2 ^ z < width) (sym e) fits) (cases_lt k count);
      within = omega arith;
    }

near_end : (width : ℕ) (ys : List Lit) (count : ℕ) → near width count (drop count ys) ≡ 0 → near width 0 ys ≡ near width count (drop count ys) + count
    → count ≡ near width 0 ys
near_end width ys count e w = omega (arith, e, w)

pub near_done : (width : ℕ) (ys : List Lit) (count rest : ℕ) → rest ≤ 0 → Nearing width ys count rest → count ≡ near width 0 ys
near_done width ys count rest stop s =
    let z : (width - 1) / 2 ^ count ≡ 0 = (let e = s.rest_is in omega (arith, e)) in
    let h = stays_below (width - 1) count z in
    near_end width ys count (near_none width count (drop count ys) (omega arith)) s.whole

pub near_all : (width : ℕ) (ys : List Lit) (count rest : ℕ) → length ys ≤ count → Nearing width ys count rest → count ≡ near width 0 ys
near_all width ys count rest l s = near_end width ys count (ap (near width count) (drop_all count ys l)) s.whole

-- a power that fits 64 bits has a place below 64
pub place_below : (place : ℕ) → 2 ^ place < 2 ^ 64 → place < 64
place_below place h = ⊎_elim (λ (l : place < 64). l)
    (λ (l : 64 ≤ place). absurd (let p = pow-le-pow_right {n = 2} (omega arith) {i = 64} {j = place} l in omega arith)) (cases_lt place 64)

-- the lowest bit of a number
abbrev bit_of : ℕ → Lit
bit_of bits = if bits % 2 == 1 then true_literal else false_literal

-- bits of a number, those so far and those of the rest
pub record Spelling (width bits i : ℕ) (so_far : List Lit) (rest : ℕ) : Type 0 where
  pub all : so_far ++ constant_bits (width - i) rest ≡ constant_bits width bits

pub spelling_begins : (width bits : ℕ) → Spelling width bits 0 [] bits
spelling_begins width bits = let all : width - 0 ≡ width = omega arith in record { all = ap (λ k. constant_bits k bits) all }

pub spelling_goes : (width bits i : ℕ) (so_far : List Lit) (rest : ℕ) (d : Lit) → i < width → d ≡ bit_of rest → Spelling width bits i so_far rest →
    Spelling width bits (i + 1) (so_far ++ d ∷ []) (rest / 2)
spelling_goes width bits i so_far rest d l e s =
    let more : width - i ≡ suc (width - (i + 1)) = omega arith in
    record {
      all = append_assoc so_far (d ∷ []) (constant_bits (width - (i + 1)) (rest / 2))
          ∙ ap (λ (z : Lit). so_far ++ (z ∷ constant_bits (width - (i + 1)) (rest / 2))) e
          ∙ ap (λ k. so_far ++ constant_bits k rest) (sym more) ∙ s.all;
    }

pub spelling_is : (width bits i : ℕ) (so_far : List Lit) (rest : ℕ) → width ≤ i → Spelling width bits i so_far rest → so_far ≡ constant_bits width bits
spelling_is width bits i so_far rest l s =
    let none : width - i ≡ 0 = omega arith in
    sym (append-nil so_far) ∙ ap (λ k. so_far ++ constant_bits k rest) (sym none) ∙ s.all

pub ruleset near_rules = (near_begins, near_goes, near_done, near_all)
