-- Numbers that are equal modulo another.
use Rattle.std.proofs.Common.{◌≡◌, ◌<◌, ◌≤◌, ◌==◌, ◌+◌, ◌-◌, ◌*◌, ◌%◌, ◌^◌, ℕ, refl, sym, ap, ◌∙◌, arith}
use Rattle.std.proofs.Math.Nat.{mod-mod, add-mod-mod, mod-add-mod, zero-mod, mod_self}
use Rattle.std.proofs.Math.Pow.{mod-mod-pow}
use Rattle.std.proofs.lemmas.Nat.{mul-mod_first, mul-mod_second}
use Rattle.ygg_shape_words.proofs.Tests.{same_test}
use Rattle.ygg_shape_sums.specs.declared.reading.TheConstants.{LESS_ONE}

-- equal modulo m
pub record Like (m x y : ℕ) : Type 0 where
  pub is : x % m ≡ y % m

pub like : (m x y : ℕ) → x ≡ y → Like m x y
like m x y e = record { is = ap (λ z. z % m) e }

pub like_back : (m x y : ℕ) → Like m x y → Like m y x
like_back m x y p = record { is = sym p.is }

pub like_both : (m x y z : ℕ) → Like m x y → Like m y z → Like m x z
like_both m x y z p q = record { is = p.is ∙ q.is }

pub like_add : (m a b c d : ℕ) → Like m a b → Like m c d → Like m (a + c) (b + d)
like_add m a b c d p q = record {
  is = sym (mod-add-mod a m c) ∙ ap (λ z. (z + c) % m) p.is ∙ mod-add-mod b m c ∙ sym (add-mod-mod b c m) ∙ ap (λ z. (b + z) % m) q.is ∙ add-mod-mod b d m;
}

pub like_times : (m k a b : ℕ) → Like m a b → Like m (k * a) (k * b)
like_times m k a b p = record { is = sym (mul-mod_second k a m) ∙ ap (λ z. (k * z) % m) p.is ∙ mul-mod_second k b m }

pub like_many : (m k a b : ℕ) → Like m a b → Like m (a * k) (b * k)
like_many m k a b p = record { is = sym (mul-mod_first a k m) ∙ ap (λ z. (z * k) % m) p.is ∙ mul-mod_first b k m }

pub like_own : (m x : ℕ) → Like m (x % m) x
like_own m x = record { is = mod-mod x m }

pub like_whole : (m x : ℕ) → Like m (x + m) x
like_whole m x = record { is = sym (add-mod-mod x m m) ∙ ap (λ z. (x + z) % m) (mod_self m) ∙ ap (λ z. z % m) e } where
  e : x + 0 ≡ x
  e = omega arith

-- digits above 64 don't count
pub like_cut : (w n : ℕ) → w ≤ 64 → Like (2 ^ w) (n % 2 ^ 64) n
like_cut w n l =
    let e : 64 ≡ 64 - w + w = omega arith in
    record { is = ap (λ z. n % 2 ^ z % 2 ^ w) e ∙ mod-mod-pow n (64 - w) w }

times_whole : (x : ℕ) → LESS_ONE * x + x ≡ 2 ^ 64 * x
times_whole x = omega arith

-- less x and x make 0
pub less_and : (w x : ℕ) → w ≤ 64 → Like (2 ^ w) (LESS_ONE * x + x) 0
less_and w x l =
    let m = 2 ^ w in
    let e : 0 * x ≡ 0 = omega arith in
    like_both m (LESS_ONE * x + x) (2 ^ 64 * x) 0 (like m (LESS_ONE * x + x) (2 ^ 64 * x) (times_whole x))
    (like_both m (2 ^ 64 * x) (0 * x) 0 (like_many m x (2 ^ 64) 0 (like_back m 0 (2 ^ 64) (like_cut w (2 ^ 64) l))) (like m (0 * x) 0 e))

zero_right : (x : ℕ) → x + 0 ≡ x
zero_right x = omega arith

swap_last : (x c y : ℕ) → (x + c) + y ≡ x + (y + c)
swap_last x c y = omega arith

-- what is added to both sides goes
pub like_less : (w x y c : ℕ) → w ≤ 64 → Like (2 ^ w) (x + c) (y + c) → Like (2 ^ w) x y
like_less w x y c l p =
    let m = 2 ^ w in
    let k = LESS_ONE * c in
    like_both m x ((x + c) + k) y (like_back m ((x + c) + k) x (gone x)) (like_both m ((x + c) + k) ((y + c) + k) y
    (like_add m (x + c) (y + c) k k p (like m k k refl)) (gone y)) where
      gone : (z : ℕ) → Like (2 ^ w) ((z + c) + LESS_ONE * c) z
      gone z =
          let m = 2 ^ w in
          let k = LESS_ONE * c in
          like_both m ((z + c) + k) (z + (k + c)) z (like m ((z + c) + k) (z + (k + c)) (swap_last z c k))
          (like_both m (z + (k + c)) (z + 0) z (like_add m z z (k + c) 0 (like m z z refl) (less_and w c l)) (like m (z + 0) z (zero_right z)))

-- a difference
pub like_sub : (w a b : ℕ) → w ≤ 64 → b < 2 ^ w → Like (2 ^ w) ((a + 2 ^ w - b) % 2 ^ w) (a + LESS_ONE * b)
like_sub w a b l h =
    let m = 2 ^ w in
    let d = (a + m - b) % m in
    let e : a + m - b + b ≡ a + m = omega arith in
    like_less w d (a + LESS_ONE * b) b l
    (like_both m (d + b) a (a + LESS_ONE * b + b)
    (like_both m (d + b) (a + m) a (like_both m (d + b) (a + m - b + b) (a + m) (like_add m d (a + m - b) b b (like_own m (a + m - b)) (like m b b refl))
    (like m (a + m - b + b) (a + m) e)) (like_whole m a))
    (like_back m (a + LESS_ONE * b + b) a (like_both m (a + LESS_ONE * b + b) (a + (LESS_ONE * b + b)) a
    (like m (a + LESS_ONE * b + b) (a + (LESS_ONE * b + b)) (three a (LESS_ONE * b) b))
    (like_both m (a + (LESS_ONE * b + b)) (a + 0) a (like_add m a a (LESS_ONE * b + b) 0 (like m a a refl) (less_and w b l))
    (like m (a + 0) a (zero_right a)))))) where
      three : (a b c : ℕ) → a + b + c ≡ a + (b + c)
      three a b c = omega arith

-- a complement
pub like_not : (w x : ℕ) → w ≤ 64 → x < 2 ^ w → Like (2 ^ w) (2 ^ w - 1 - x) (LESS_ONE * x + LESS_ONE)
like_not w x l h =
    let m = 2 ^ w in
    let e : m - 1 - x + (x + 1) ≡ 0 + m = omega arith in
    let f : LESS_ONE * x + LESS_ONE + (x + 1) ≡ LESS_ONE * (x + 1) + (x + 1) = omega arith in
    like_less w (m - 1 - x) (LESS_ONE * x + LESS_ONE) (x + 1) l
    (like_both m (m - 1 - x + (x + 1)) 0 (LESS_ONE * x + LESS_ONE + (x + 1))
    (like_both m (m - 1 - x + (x + 1)) (0 + m) 0 (like m (m - 1 - x + (x + 1)) (0 + m) e) (like_whole m 0))
    (like_back m (LESS_ONE * x + LESS_ONE + (x + 1)) 0 (like_both m (LESS_ONE * x + LESS_ONE + (x + 1)) (LESS_ONE * (x + 1) + (x + 1)) 0
    (like m (LESS_ONE * x + LESS_ONE + (x + 1)) (LESS_ONE * (x + 1) + (x + 1)) f) (less_and w (x + 1) l))))

-- two sides are equal where their difference is 0
pub sides_equal : (w t a b : ℕ) → w ≤ 64 → Like (2 ^ w) (t + b) a → (a % 2 ^ w == b % 2 ^ w) ≡ (t % 2 ^ w == 0)
sides_equal w t a b l p = same_test (a % 2 ^ w) (b % 2 ^ w) (t % 2 ^ w) 0 forth back where
  none : (b : ℕ) → b ≡ 0 + b
  none b = omega arith

  forth : a % 2 ^ w ≡ b % 2 ^ w → t % 2 ^ w ≡ 0
  forth e =
      let m = 2 ^ w in
      let q : Like m t 0 =
      like_less w t 0 b l (like_both m (t + b) b (0 + b) (like_both m (t + b) a b p (record { is = e })) (like m b (0 + b) (none b))) in
      q.is ∙ zero-mod m

  back : t % 2 ^ w ≡ 0 → a % 2 ^ w ≡ b % 2 ^ w
  back e =
      let m = 2 ^ w in
      let q : Like m (t + b) (0 + b) = like_add m t 0 b b (record { is = e ∙ sym (zero-mod m) }) (like m b b refl) in
      let r : Like m (0 + b) b = like m (0 + b) b (sym (none b)) in
      sym p.is ∙ q.is ∙ r.is
