-- Equalities of numbers, undone.
use Rattle.std.specs.Prelude.{nat_lt, bit_and}
use Rattle.std.specs.Int.Bits.{bit_or, bit_xor, xor_assoc, xor_self, xor_zero_r, and_zero_r, or_add_and, xor_add_and}
use Rattle.std.proofs.Common.{◌≡◌, ◌<◌, ◌≤◌, ◌==◌, ◌+◌, ◌-◌, ◌*◌, ◌/◌, ◌%◌, ◌^◌, ◌⊎◌, inl, inr, ℕ, Bool, true, false, if◌then◌else◌}
use Rattle.std.proofs.Common.{refl, sym, ap, ◌∙◌, subst, arith}
use Rattle.std.proofs.Math.Nat.{mod-eq_of_lt, mod-eq-sub-mod, mod-lt, mul_assoc, mul_comm, mul-one, mul-le-mul_right, mul-div_cancel, div-mul-le_self}
use Rattle.std.proofs.lemmas.Nat.{mul-mod_first, mul-mod_second, and_assoc, and_le_r}
use Rattle.std.proofs.lemmas.Bool.{cases_lt}
use Rattle.std.proofs.lemmas.Bool.Decides.{nat_tests, Decides-eqb}

-- two tests that pass in the same cases are equal
pub same_test : (a b c d : ℕ) → (a ≡ b → c ≡ d) → (c ≡ d → a ≡ b) → (a == b) ≡ (c == d)
same_test a b c d f g = same_case (a == b) (c == d) refl refl where
  same_case : (x y : Bool) → (a == b) ≡ x → (c == d) ≡ y → (a == b) ≡ (c == d)
  same_case true y e h = e ∙ sym ((Decides-eqb c d).1 (f ((Decides-eqb a b).0 e)))
  same_case false true e h = let z : (a == b) ≡ true = (Decides-eqb a b).1 (g ((Decides-eqb c d).0 h)) in absurd (cc)
  same_case false false e h = e ∙ sym h

-- what is left under a modulus, of less than twice the modulus
pub mod_is : (n m r : ℕ) → r < m → (n ≡ r) ⊎ (n ≡ r + m) → n % m ≡ r
mod_is n m r l (inl e) = let h : n < m = omega arith in mod-eq_of_lt h ∙ e
mod_is n m r l (inr e) =
    let h : m ≤ n = omega arith in
    let s : n - m ≡ r = omega arith in
    mod-eq-sub-mod h ∙ ap (λ z. z % m) s ∙ mod-eq_of_lt l

pub mod_of : (n m : ℕ) → n < m + m → 0 < m → (n ≡ n % m) ⊎ (n ≡ n % m + m)
mod_of n m l p = mod_case (cases_lt n m) where
  mod_case : (n < m) ⊎ (m ≤ n) → (n ≡ n % m) ⊎ (n ≡ n % m + m)
  mod_case (inl h) = inl (sym (mod-eq_of_lt h))
  mod_case (inr h) =
      let s : n - m < m = omega arith in
      let e : n % m ≡ n - m = mod-eq-sub-mod h ∙ mod-eq_of_lt s in inr (omega arith)

pub add_undone : (m x c k : ℕ) → x < m → c < m → k < m → ((x + c) % m == k) ≡ (x == (k + m - c) % m)
add_undone m x c k p q r = same_test ((x + c) % m) k x ((k + m - c) % m) forth back where
  forth : (x + c) % m ≡ k → x ≡ (k + m - c) % m
  forth e = forth_case (mod_of (x + c) m (omega arith) (omega arith)) where
    forth_case : (x + c ≡ (x + c) % m) ⊎ (x + c ≡ (x + c) % m + m) → x ≡ (k + m - c) % m
    forth_case (inl h) = sym (mod_is (k + m - c) m x p (inr (omega arith)))
    forth_case (inr h) = sym (mod_is (k + m - c) m x p (inl (omega arith)))

  back : x ≡ (k + m - c) % m → (x + c) % m ≡ k
  back e = back_case (mod_of (k + m - c) m (omega arith) (omega arith)) where
    back_case : (k + m - c ≡ (k + m - c) % m) ⊎ (k + m - c ≡ (k + m - c) % m + m) → (x + c) % m ≡ k
    back_case (inl h) = mod_is (x + c) m k r (inr (omega arith))
    back_case (inr h) = mod_is (x + c) m k r (inl (omega arith))

pub sub_undone : (m x c k : ℕ) → x < m → c < m → k < m → ((x + m - c) % m == k) ≡ (x == (k + c) % m)
sub_undone m x c k p q r =
    same_test ((x + m - c) % m) k x ((k + c) % m) (λ e. sym (there k x r p e)) (λ e. back k x r p (sym e)) where
      -- the equation the other way round
      there : (k x : ℕ) → k < m → x < m → (x + m - c) % m ≡ k → (k + c) % m ≡ x
      there k x r p e = (Decides-eqb ((k + c) % m) x).0 (add_undone m k c x r q p ∙ (Decides-eqb k ((x + m - c) % m)).1 (sym e))

      back : (k x : ℕ) → k < m → x < m → (k + c) % m ≡ x → (x + m - c) % m ≡ k
      back k x r p e = sym ((Decides-eqb k ((x + m - c) % m)).0 (sym (add_undone m k c x r q p) ∙ (Decides-eqb ((k + c) % m) x).1 e))

pub sub_turned : (m x c k : ℕ) → x < m → c < m → k < m → ((c + m - x) % m == k) ≡ (x == (c + m - k) % m)
sub_turned m x c k p q r = same_test ((c + m - x) % m) k x ((c + m - k) % m) (λ e. there x k p r e) (λ e. sym (there k x r p (sym e))) where
  there : (x k : ℕ) → x < m → k < m → (c + m - x) % m ≡ k → x ≡ (c + m - k) % m
  there x k p r e = there_case (mod_of (c + m - x) m (omega arith) (omega arith)) where
    there_case : (c + m - x ≡ (c + m - x) % m) ⊎ (c + m - x ≡ (c + m - x) % m + m) → x ≡ (c + m - k) % m
    there_case (inl h) = sym (mod_is (c + m - k) m x p (inl (omega arith)))
    there_case (inr h) = sym (mod_is (c + m - k) m x p (inr (omega arith)))

-- what is multiplied and then multiplied by the inverse is what it was
times_back : (m a c i : ℕ) → a < m → (c * i) % m ≡ 1 → ((a * c) % m * i) % m ≡ a
times_back m a c i l e =
    mul-mod_first (a * c) i m ∙ ap (λ z. z % m) (mul_assoc a c i) ∙ sym (mul-mod_second a (c * i) m) ∙ ap (λ z. (a * z) % m) e
    ∙ ap (λ z. z % m) (mul-one a) ∙ mod-eq_of_lt l

pub mul_undone : (m x c i k : ℕ) → x < m → k < m → (c * i) % m ≡ 1 → ((x * c) % m == k) ≡ (x == (k * i) % m)
mul_undone m x c i k p q e = same_test ((x * c) % m) k x ((k * i) % m) forth back where
  forth : (x * c) % m ≡ k → x ≡ (k * i) % m
  forth h = sym (times_back m x c i p e) ∙ ap (λ z. (z * i) % m) h

  back : x ≡ (k * i) % m → (x * c) % m ≡ k
  back h = ap (λ z. (z * c) % m) h ∙ times_back m k i c q (ap (λ z. z % m) (mul_comm i c) ∙ e)

pub not_undone : (m x k : ℕ) → x < m → k < m → (m - 1 - x == k) ≡ (x == m - 1 - k)
not_undone m x k p q = same_test (m - 1 - x) k x (m - 1 - k) (λ e. omega arith) (λ e. omega arith)

xor_back : (a c : ℕ) → bit_xor (bit_xor a c) c ≡ a
xor_back a c = xor_assoc a c c ∙ ap (bit_xor a) (xor_self c) ∙ xor_zero_r a

pub xor_undone : (x c k : ℕ) → (bit_xor x c == k) ≡ (x == bit_xor k c)
xor_undone x c k =
    same_test (bit_xor x c) k x (bit_xor k c) (λ h. sym (xor_back x c) ∙ ap (λ z. bit_xor z c) h) (λ h. ap (λ z. bit_xor z c) h ∙ xor_back k c)

-- of numbers that share no digit
or_is_xor : (x c : ℕ) → bit_and x c ≡ 0 → bit_or x c ≡ bit_xor x c
or_is_xor x c e = sums (bit_or x c) (bit_xor x c) (bit_and x c) (x + c) e (or_add_and x c) (xor_add_and x c) where
  sums : (o z d s : ℕ) → d ≡ 0 → o + d ≡ s → z + d * 2 ≡ s → o ≡ z
  sums o z d s e f g = omega arith

-- of a number that has no other digits than m, which has none of those of c
pub or_undone : (x m c k : ℕ) → bit_and x m ≡ x → bit_and m c ≡ 0 → (bit_or x c == k) ≡ (x == bit_xor k c)
or_undone x m c k h e =
    let apart : bit_and x c ≡ 0 = ap (λ z. bit_and z c) (sym h) ∙ and_assoc c x m ∙ ap (bit_and x) e ∙ and_zero_r x in
    ap (λ z. z == k) (or_is_xor x c apart) ∙ xor_undone x c k

-- a number at a width whose modulus is m, moved up by as many digits as p says, and moved down: both are 0 where that is too far
abbrev pub up : Bool → ℕ → ℕ → ℕ → ℕ
up b p m x = if b then (x * p) % m else 0

abbrev pub down : Bool → ℕ → ℕ → ℕ
down b p x = if b then x / p else 0

-- a number that has no other digits than those of one that comes back comes back
comes_down : (b : Bool) (p m x n : ℕ) → 0 < p → 0 < m → bit_and x n ≡ x → down b p (up b p m n) ≡ n → down b p (up b p m x) ≡ x
comes_down true p m x n i j h e =
    let less : x ≤ n = subst (λ z. z ≤ n) h (and_le_r x n) in
    let most : n * p ≤ (n * p) % m = subst (λ z. z * p ≤ (n * p) % m) e (div-mul-le_self ((n * p) % m) p) in
    let bound : (n * p) % m < m = mod-lt (n * p) j in
    let wide : x * p ≤ n * p = mul-le-mul_right p less in
    let l : x * p < m = omega arith in
    ap (λ z. z / p) (mod-eq_of_lt l) ∙ mul-div_cancel x i
comes_down false p m x n i j h e = sym (sym h ∙ ap (bit_and x) (sym e) ∙ and_zero_r x)

pub shift_undone : (b : Bool) (p m x n k : ℕ) → 0 < p → 0 < m → bit_and x n ≡ x → down b p (up b p m n) ≡ n → up b p m (down b p k) ≡ k →
    (up b p m x == k) ≡ (x == down b p k)
shift_undone b p m x n k i j h e f =
    same_test (up b p m x) k x (down b p k) (λ g. sym (comes_down b p m x n i j h e) ∙ ap (down b p) g) (λ g. ap (up b p m) g ∙ f)

-- a number keeps all its digits at a width exactly where it is below 2 to the width
pub fits_test : (w n : ℕ) → 0 < 2 ^ w → (n % 2 ^ w == n) ≡ nat_lt n (2 ^ w)
fits_test w n p = fits_case w n p (nat_lt n (2 ^ w)) refl where
  fits_case : (w n : ℕ) → 0 < 2 ^ w → (b : Bool) → nat_lt n (2 ^ w) ≡ b → (n % 2 ^ w == n) ≡ nat_lt n (2 ^ w)
  fits_case w n p true e =
      let l : n < 2 ^ w = grind (arith, nat_tests) in
      let m : n % 2 ^ w ≡ n = mod-eq_of_lt l in
      (Decides-eqb (n % 2 ^ w) n).1 m ∙ sym e
  fits_case w n p false e =
      let l : 2 ^ w ≤ n = grind (arith, nat_tests) in
      let m : n % 2 ^ w < 2 ^ w = omega arith in
      let t : (n % 2 ^ w == n) ≡ false = grind (arith, nat_tests) in t ∙ sym e
