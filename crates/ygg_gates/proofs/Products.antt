-- What the gates of a product mean.
use Rattle.std.proofs.Common.{
  ◌≡◌,
  ◌<◌,
  ◌≤◌,
  ℕ,
  zero,
  suc,
  ◌+◌,
  ◌-◌,
  ◌*◌,
  ◌/◌,
  ◌%◌,
  ◌^◌,
  Bool,
  true,
  false,
  bit_and,
  List,
  [],
  ◌∷◌,
  length,
  replicate,
  take,
  sym,
  subst,
  ap,
  ◌∙◌,
  arith,
  refl,
}
use Rattle.std.proofs.lemmas.List.{length-replicate, length-append, length-take}
use Rattle.std.proofs.lemmas.Nat.{and_comm, and_mask, div-add-mod'}
use Rattle.std.proofs.Math.Nat.{mod-eq_of_lt, mul_comm, mul_assoc, add-mul-mod_self_left}
use Rattle.ygg_cnf.specs.declared.lit.Lit.{Lit}
use Rattle.ygg_value.specs.Words.{bit_of}
use Rattle.ygg_gates.specs.Circuits.{Out, next_variable, false_literal}
use Rattle.ygg_gates.specs.Rows.{Sum, joined_each, added, moved_up, multiplied_bit, multiplied}
use Rattle.ygg_gates.specs.declared.gate.Gate.{Gate}
use Rattle.ygg_gates.specs.declared.gate.Joint.TheVariants as joint
use Rattle.ygg_gates.proofs.Truths.{value_of}
use Rattle.ygg_gates.proofs.Following.{Below}
use Rattle.ygg_gates.proofs.Joints.{joined_each_good}
use Rattle.ygg_gates.proofs.BitNumbers.{
  number,
  AllBelow,
  all_below_more,
  all_below_append,
  all_below_replicate,
  all_below_take,
  AreBits,
  bits_below,
  double,
  double_times,
  false_bit,
  number_moved_up,
}
use Rattle.ygg_gates.proofs.CircuitSteps.{Good, done, follow, grows_length}
use Rattle.ygg_gates.proofs.MeantSums.{added_good}

-- one bit, so many times: all ones or none
number_copies : (v : ℕ → Bool) (k : ℕ) (d : Lit) (b : Bool) → value_of v d ≡ b → number v (replicate k d) + bit_of b ≡ bit_of b * 2 ^ k
number_copies v zero d b e = times_one (bit_of b) where
  times_one : (n : ℕ) → 0 + n ≡ n * 2 ^ 0
  times_one n = omega arith
number_copies v (suc k) d b e =
    let r = number_copies v k d b e in
    let h = ap bit_of e in
    let p : bit_of b * 2 ^ suc k ≡ 2 * (bit_of b * 2 ^ k) =
    (mul_comm (bit_of b) (2 ^ suc k) ∙ double_times k (bit_of b) ∙ ap (λ z. 2 * z) (mul_comm (2 ^ k) (bit_of b))) in
    omega (arith, r, h, p)

-- AND with one bit, so many times, keeps a number or nothing of it
pub and_copies : (v : ℕ → Bool) (k : ℕ) (d : Lit) (b : Bool) (n : ℕ) → value_of v d ≡ b → n < 2 ^ k → bit_and (number v (replicate k d)) n ≡ bit_of b * n
and_copies v k d true n e l =
    let ones : number v (replicate k d) ≡ 2 ^ k - 1 = (let h = number_copies v k d true e in omega (arith, h)) in
    ap (λ z. bit_and z n) ones ∙ and_comm (2 ^ k - 1) n ∙ and_mask n k ∙ mod-eq_of_lt l ∙ once n where
      once : (m : ℕ) → m ≡ 1 * m
      once m = omega arith
and_copies v k d false n e l =
    let none : number v (replicate k d) ≡ 0 = (let h = number_copies v k d false e in omega (arith, h)) in
    ap (λ z. bit_and z n) none ∙ and_comm 0 n ∙ and_mask n 0 ∙ nothing n where
      nothing : (m : ℕ) → m % 2 ^ 0 ≡ 0 * m
      nothing m = omega arith

pub moved_up_bits : (places n : ℕ) (xs : List Lit) → places ≤ length xs → 1 < n → AllBelow n xs → AreBits (length xs) n (moved_up places xs)
moved_up_bits places n xs l one h = record {
  count = omega (
    arith,
    length-append (replicate places false_literal) (take (length xs - places) xs),
    length-replicate places false_literal,
    length-take (length xs - places) xs,
  );
  below = all_below_append n (replicate places false_literal) (take (length xs - places) xs) (all_below_replicate n places false_literal one)
      (all_below_take n (length xs - places) xs h);
}

-- the number of bits, but for a multiple of the width's power, is another number
pub record Wraps (power bits whole : ℕ) : Type 0 where
  pub over : ℕ
  pub is : bits + power * over ≡ whole

pub wraps_mod : (power bits whole : ℕ) → bits < power → Wraps power bits whole → bits ≡ whole % power
wraps_mod power bits whole l w = sym (mod-eq_of_lt l) ∙ sym (add-mul-mod_self_left bits power w.over) ∙ ap (λ z. z % power) w.is

abbrev IsProductBit : List Lit → List Lit → ℕ → Lit → (ℕ → Bool) → List Lit → Type 0
IsProductBit xs so_far place d v o = Wraps (2 ^ length xs) (number v o) (number v so_far + number v xs * (2 ^ place * bit_of (value_of v d)))

bit_step : (power o sum part carry x up shift top d : ℕ) → o + power * carry ≡ sum + part + 0 → part ≡ d * up → up + power * top ≡ x * shift →
    o + power * (carry + d * top) ≡ sum + x * (shift * d)
bit_step power o sum part carry x up shift top d e f g =
    let h : (up + power * top) * d ≡ x * shift * d = ap (λ z. z * d) g in
    let k : x * shift * d ≡ x * (shift * d) = mul_assoc x shift d in
    grind (arith, e, f, h, k)

pub multiplied_bit_good : (xs so_far : List Lit) (place : ℕ) (d : Lit) (old : List Gate) → length so_far ≡ length xs → place ≤ length xs →
    AllBelow (next_variable old) xs → AllBelow (next_variable old) so_far → Below (next_variable old) d →
    Good (List Lit) (AreBits (length xs)) (IsProductBit xs so_far place d) old (multiplied_bit xs so_far place d old)
multiplied_bit_good xs so_far place d old l at p q r =
    let copies : List Lit = replicate (length xs) d in
    let up : List Lit = moved_up place xs in
    let bits = moved_up_bits place (next_variable old) xs at (omega arith) p in
    let count : length copies ≡ length xs = length-replicate (length xs) d in
    let part : Out (List Lit) = joined_each joint.And copies up old in
    let g = joined_each_good joint.And copies up old (count ∙ sym bits.count) tt (all_below_replicate (next_variable old) (length xs) d r) bits.below in
    let n = grows_length old part.gates g.grows in
    let w = g.within in
    let sum : Out Sum = added so_far part.value false_literal part.gates in
    let same : length so_far ≡ length part.value = l ∙ sym count ∙ sym w.count in
    let k = added_good so_far part.value false_literal part.gates same (all_below_more _ _ so_far n q) w.below (omega arith) in
    follow (AreBits (length xs)) (IsProductBit xs so_far place d) old part sum sum.value.bits g k
    (λ m a b. record { count = b.bits.count ∙ l; below = b.bits.below })
    (λ v t e f.
    let power : ℕ = 2 ^ length xs in
    let z = false_bit v t in
    let wide : 2 ^ length so_far ≡ power = ap (λ i. 2 ^ i) l in
    let first : number v sum.value.bits + power * bit_of (value_of v sum.value.carry) ≡ number v so_far + number v part.value + 0
    = subst (λ i. number v sum.value.bits + i * bit_of (value_of v sum.value.carry) ≡ number v so_far + number v part.value + 0) wide
    (f ∙ ap (λ i. number v so_far + number v part.value + i) z) in
    let fits : number v up < power = bits_below v (length xs) (next_variable old) up bits in
    let second : number v part.value ≡ bit_of (value_of v d) * number v up = e ∙ and_copies v (length xs) d (value_of v d) (number v up) refl fits in
    let whole : ℕ = number v xs * 2 ^ place in
    let third : number v up + power * (whole / power) ≡ whole
    = ap (λ i. i + power * (whole / power)) (number_moved_up v place xs t at) ∙ split whole power in
    record {
      over = bit_of (value_of v sum.value.carry) + bit_of (value_of v d) * (whole / power);
      is = bit_step power (number v sum.value.bits) (number v so_far) (number v part.value) (bit_of (value_of v sum.value.carry)) (number v xs)
          (number v up) (2 ^ place) (whole / power) (bit_of (value_of v d)) first second third;
    }) where
      split : (n m : ℕ) → n % m + m * (n / m) ≡ n
      split n m = let h = div-add-mod' n m in let c = mul_comm (n / m) m in omega (arith, h, c)

abbrev IsProduct : List Lit → List Lit → ℕ → List Lit → (ℕ → Bool) → List Lit → Type 0
IsProduct xs so_far place ds v o = Wraps (2 ^ length xs) (number v o) (number v so_far + number v xs * (2 ^ place * number v ds))

product_more : (power o next over sum x shift up b n first : ℕ) → o + power * over ≡ next + x * (up * n) →
    next + power * first ≡ sum + x * (shift * b) → up ≡ 2 * shift →
    o + power * (over + first) ≡ sum + x * (shift * (b + 2 * n))
product_more power o next over sum x shift up b n first e f g =
    let a : x * (up * n) ≡ x * (shift * (2 * n)) = ap (λ z. x * z) (ap (λ z. z * n) g ∙ mul_assoc 2 shift n ∙ twice shift n) in
    let s : x * (shift * (b + 2 * n)) ≡ x * (shift * b) + x * (shift * (2 * n)) = spread x shift b (2 * n) in
    grind (arith, e, f, a, s) where
      twice : (p q : ℕ) → 2 * (p * q) ≡ p * (2 * q)
      twice p q = grind arith

      spread : (p q i j : ℕ) → p * (q * (i + j)) ≡ p * (q * i) + p * (q * j)
      spread p q i j = grind arith

pub multiplied_good : (xs so_far : List Lit) (place : ℕ) (ds : List Lit) (old : List Gate) → length so_far ≡ length xs → place + length ds ≤ length xs
    → AllBelow (next_variable old) xs → AllBelow (next_variable old) so_far → AllBelow (next_variable old) ds →
    Good (List Lit) (AreBits (length xs)) (IsProduct xs so_far place ds) old (multiplied xs so_far place ds old)
multiplied_good xs so_far place [] old l at p q r =
    done (AreBits (length xs)) (IsProduct xs so_far place []) old so_far (record { count = l; below = q })
    (λ v t. record { over = 0; is = none (number v so_far) (2 ^ length xs) (number v xs) (2 ^ place) }) where
      none : (s w x p : ℕ) → s + w * 0 ≡ s + x * (p * 0)
      none s w x p = grind arith
multiplied_good xs so_far place (d ∷ ds) old l at p q r =
    let one : Out (List Lit) = multiplied_bit xs so_far place d old in
    let g = multiplied_bit_good xs so_far place d old l (omega arith) p q r.0 in
    let n = grows_length old one.gates g.grows in
    let w = g.within in
    let rest : Out (List Lit) = multiplied xs one.value (place + 1) ds one.gates in
    let k = multiplied_good xs one.value (place + 1) ds one.gates w.count (omega arith) (all_below_more _ _ xs n p) w.below (all_below_more _ _ ds n r.1) in
    follow (AreBits (length xs)) (IsProduct xs so_far place (d ∷ ds)) old one rest rest.value g k (λ m a b. b)
    (λ v t e f. record {
      over = f.over + e.over;
      is = product_more (2 ^ length xs) (number v rest.value) (number v one.value) f.over (number v so_far) (number v xs) (2 ^ place)
          (2 ^ (place + 1)) (bit_of (value_of v d)) (number v ds) e.over f.is e.is
          (let up : place + 1 ≡ suc place = omega arith in ap (λ i. 2 ^ i) up ∙ double place);
    })
