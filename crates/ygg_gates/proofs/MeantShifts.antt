-- What the gates of a shift mean.
use Rattle.std.proofs.Common.{
  ◌≡◌,
  ◌<◌,
  ◌≤◌,
  ℕ,
  suc,
  ◌+◌,
  ◌-◌,
  ◌*◌,
  ◌/◌,
  ◌%◌,
  ◌^◌,
  Bool,
  true,
  false,
  not,
  cond,
  ◌||◌,
  nat_lt,
  if◌then◌else◌,
  bit_and,
  List,
  [],
  ◌∷◌,
  length,
  replicate,
  take,
  drop,
  ⊎_elim,
  sym,
  subst,
  ap,
  ◌∙◌,
  arith,
  refl,
  add-one,
}
use Rattle.std.proofs.lemmas.Bool.{cases_lt}
use Rattle.std.proofs.lemmas.List.{length-replicate, length-append, length-drop, drop_all}
use Rattle.std.proofs.lemmas.Nat.{shr-shr, pow-add, mul-mod_first, and_comm}
use Rattle.std.proofs.Math.Nat.{mod-eq_of_lt, mul_comm, mul_assoc, div-eq_of_lt, pow-le-pow_right, mul-mod_left, le-mul_of_pos_right}
use Rattle.ygg_cnf.specs.Literals.{complement}
use Rattle.ygg_cnf.specs.declared.lit.Lit.{Lit}
use Rattle.ygg_value.specs.Words.{bit_of, apply_bits}
use Rattle.ygg_value.specs.declared.operation.Op.{Op}
use Rattle.ygg_value.specs.declared.operation.Op.TheVariants as op
use Rattle.ygg_gates.specs.Circuits.{Out, next_variable, false_literal}
use Rattle.ygg_gates.specs.Rows.{joined_each, moved, near, shifted_near, any_bit, shifted}
use Rattle.ygg_gates.specs.declared.gate.Gate.{Gate}
use Rattle.ygg_gates.specs.declared.gate.Joint.TheVariants as joint
use Rattle.ygg_gates.specs.declared.gate.Way.{Way}
use Rattle.ygg_gates.specs.declared.gate.Way.TheVariants.{Up, Down}
use Rattle.ygg_gates.proofs.Truths.{value_of, value_of-complement}
use Rattle.ygg_gates.proofs.Joints.{joined_each_good}
use Rattle.ygg_gates.proofs.Compares.{any_good, test_true, test_false}
use Rattle.ygg_gates.proofs.Products.{and_copies, moved_up_bits}
use Rattle.ygg_gates.proofs.BitNumbers.{
  number,
  AllBelow,
  all_below_more,
  all_below_append,
  all_below_replicate,
  all_below_take,
  all_below_drop,
  AreBits,
  number_below,
  number_split,
  double_times,
  number_moved_up,
  number_moved_down,
}
use Rattle.ygg_gates.proofs.CircuitSteps.{Good, done, follow, grows_length}

-- a number of so many bits moved by so many places
abbrev moved_number : Way → ℕ → ℕ → ℕ → ℕ
moved_number Up w x places = (x * 2 ^ places) % 2 ^ w
moved_number Down w x places = x / 2 ^ places

moved_bits : (way : Way) (places n : ℕ) (xs : List Lit) → places ≤ length xs → 1 < n → AllBelow n xs → AreBits (length xs) n (moved way places xs)
moved_bits Up places n xs l one h = moved_up_bits places n xs l one h
moved_bits Down places n xs l one h = record {
  count = omega (arith, length-append (drop places xs) (replicate places false_literal), length-replicate places false_literal, length-drop places xs);
  below = all_below_append n (drop places xs) (replicate places false_literal) (all_below_drop n places xs h) (all_below_replicate n places false_literal one);
}

number_moved : (v : ℕ → Bool) (way : Way) (places : ℕ) (xs : List Lit) → v 1 ≡ true → places ≤ length xs →
    number v (moved way places xs) ≡ moved_number way (length xs) (number v xs) places
number_moved v Up places xs t l = number_moved_up v places xs t l
number_moved v Down places xs t l = number_moved_down v places xs t l

moved_none : (way : Way) (w x : ℕ) → x < 2 ^ w → x ≡ moved_number way w x 0
moved_none Up w x l = let one : x * 2 ^ 0 ≡ x = omega arith in sym (ap (λ z. z % 2 ^ w) one ∙ mod-eq_of_lt l)
moved_none Down w x l = omega arith

moved_twice : (way : Way) (w x p q : ℕ) → moved_number way w (moved_number way w x p) q ≡ moved_number way w x (p + q)
moved_twice Up w x p q = mul-mod_first (x * 2 ^ p) (2 ^ q) (2 ^ w) ∙ ap (λ z. z % 2 ^ w) (mul_assoc x (2 ^ p) (2 ^ q) ∙ ap (λ z. x * z) (sym (pow-add 2 p q)))
moved_twice Down w x p q = shr-shr x p q

moved_past : (way : Way) (w x p : ℕ) → x < 2 ^ w → w ≤ p → moved_number way w x p ≡ 0
moved_past Up w x p l m =
    let k : p - w + w ≡ p = omega arith in
    ap (λ z. (x * 2 ^ z) % 2 ^ w) (sym k) ∙ ap (λ z. (x * z) % 2 ^ w) (pow-add 2 (p - w) w)
    ∙ ap (λ z. z % 2 ^ w) (sym (mul_assoc x (2 ^ (p - w)) (2 ^ w))) ∙ mul-mod_left (x * 2 ^ (p - w)) (2 ^ w)
moved_past Down w x p l m = let h = pow-le-pow_right {n = 2} (omega arith) {i = w} {j = p} m in div-eq_of_lt (let s : x < 2 ^ p = omega arith in s)

moved_if : (way : Way) (w x p : ℕ) (b : Bool) → x < 2 ^ w → cond b (moved_number way w x p) x ≡ moved_number way w x (p * bit_of b)
moved_if way w x p true l = let e : p * 1 ≡ p = omega arith in ap (moved_number way w x) (sym e)
moved_if way w x p false l = let e : p * 0 ≡ 0 = omega arith in moved_none way w x l ∙ ap (moved_number way w x) (sym e)

-- each of the bits, the first of which has this place k, has 2 ^ k below the width
abbrev AreNear : ℕ → ℕ → List Lit → Type 0
AreNear w place [] = Unit {0}
AreNear w place (d ∷ ds) = (2 ^ place < w) × AreNear w (place + 1) ds

abbrev IsMoved : Way → List Lit → ℕ → List Lit → (ℕ → Bool) → List Lit → Type 0
IsMoved way xs place ds v o = number v o ≡ moved_number way (length xs) (number v xs) (2 ^ place * number v ds)

place_sum : (place b n : ℕ) → 2 ^ place * b + 2 ^ (place + 1) * n ≡ 2 ^ place * (b + 2 * n)
place_sum place b n =
    let up : place + 1 ≡ suc place = omega arith in
    let e : 2 ^ (place + 1) * n ≡ 2 * (2 ^ place * n) = ap (λ i. 2 ^ i * n) up ∙ double_times place n in
    ap (λ z. 2 ^ place * b + z) e ∙ spread (2 ^ place) b n where
      spread : (p i j : ℕ) → p * i + 2 * (p * j) ≡ p * (i + 2 * j)
      spread p i j = grind arith

shifted_near_good : (way : Way) (xs : List Lit) (place : ℕ) (ds : List Lit) (old : List Gate) → AreNear (length xs) place ds →
    AllBelow (next_variable old) xs → AllBelow (next_variable old) ds →
    Good (List Lit) (AreBits (length xs)) (IsMoved way xs place ds) old (shifted_near way xs place ds old)
shifted_near_good way xs place [] old a p r =
    done (AreBits (length xs)) (IsMoved way xs place []) old xs (record { count = refl; below = p })
    (λ v t. let e : 2 ^ place * 0 ≡ 0 = omega arith in moved_none way (length xs) (number v xs) (number_below v xs)
    ∙ ap (moved_number way (length xs) (number v xs)) (sym e))
shifted_near_good way xs place (d ∷ ds) old a p r =
    let up : List Lit = moved way (2 ^ place) xs in
    let near : 2 ^ place ≤ length xs = (let h = a.0 in omega arith) in
    let bits = moved_bits way (2 ^ place) (next_variable old) xs near (omega arith) p in
    let one : Out (List Lit) = joined_each (joint.Pick d) up xs old in
    let g = joined_each_good (joint.Pick d) up xs old bits.count r.0 bits.below p in
    let n = grows_length old one.gates g.grows in
    let w = g.within in
    let count : length one.value ≡ length xs = w.count ∙ bits.count in
    let rest : Out (List Lit) = shifted_near way one.value (place + 1) ds one.gates in
    let k = shifted_near_good way one.value (place + 1) ds one.gates (subst (λ z. AreNear z (place + 1) ds) (sym count) a.1) w.below
    (all_below_more _ _ ds n r.1) in
    follow (AreBits (length xs)) (IsMoved way xs place (d ∷ ds)) old one rest rest.value g k
    (λ m y z. record { count = z.count ∙ count; below = z.below })
    (λ v t e f.
    let width : ℕ = length xs in
    let x : ℕ = number v xs in
    let first : number v one.value ≡ moved_number way width x (2 ^ place * bit_of (value_of v d))
    = e ∙ ap (λ z. cond (value_of v d) z x) (number_moved v way (2 ^ place) xs t near) ∙ moved_if way width x (2 ^ place) (value_of v d) (number_below v xs) in
    f ∙ ap (λ z. moved_number way z (number v one.value) (2 ^ (place + 1) * number v ds)) count
    ∙ ap (λ z. moved_number way width z (2 ^ (place + 1) * number v ds)) first
    ∙ moved_twice way width x (2 ^ place * bit_of (value_of v d)) (2 ^ (place + 1) * number v ds)
    ∙ ap (moved_number way width x) (place_sum place (bit_of (value_of v d)) (number v ds)))

near_here : (w place : ℕ) (y : Lit) (ys : List Lit) → 2 ^ place < w → near w place (y ∷ ys) ≡ suc (near w (place + 1) ys)
near_here w place y ys l = rw (test_true (2 ^ place) w l) (add-one (near w (place + 1) ys))

near_not : (w place : ℕ) (y : Lit) (ys : List Lit) → w ≤ 2 ^ place → near w place (y ∷ ys) ≡ 0
near_not w place y ys l = rw (test_false (2 ^ place) w l) refl

-- where an amount's bits are split: the first are near, and where others follow, the width is reached
record IsSplit (w place : ℕ) (ys : List Lit) (k : ℕ) : Type 0 where
  within : k ≤ length ys
  near : AreNear w place (take k ys)
  far : k < length ys → w ≤ 2 ^ (place + k)

split_more : (w place : ℕ) (y : Lit) (ys : List Lit) (k : ℕ) → 2 ^ place < w → IsSplit w (place + 1) ys k → IsSplit w place (y ∷ ys) (suc k)
split_more w place y ys k l s = record {
  within = let h = s.within in omega arith;
  near = (l, s.near);
  far = λ m. let e : place + suc k ≡ place + 1 + k = omega arith in subst (λ z. w ≤ 2 ^ z) (sym e) (s.far (omega arith));
}

split_here : (w place : ℕ) (y : Lit) (ys : List Lit) → w ≤ 2 ^ place → IsSplit w place (y ∷ ys) 0
split_here w place y ys l = record {
  within = omega arith;
  near = tt;
  far = λ m. let e : place + 0 ≡ place = omega arith in subst (λ z. w ≤ 2 ^ z) (sym e) l;
}

near_splits : (w place : ℕ) (ys : List Lit) → IsSplit w place ys (near w place ys)
near_splits w place [] = record { within = omega arith; near = tt; far = λ m. absurd (omega arith) }
near_splits w place (y ∷ ys) =
    ⊎_elim (λ (l : 2 ^ place < w). subst (IsSplit w place (y ∷ ys)) (sym (near_here w place y ys l))
    (split_more w place y ys (near w (place + 1) ys) l (near_splits w (place + 1) ys)))
    (λ (l : w ≤ 2 ^ place). subst (IsSplit w place (y ∷ ys)) (sym (near_not w place y ys l)) (split_here w place y ys l)) (cases_lt (2 ^ place) w)

-- the operation that moves bits this way
abbrev pub shift_of : Way → Op
shift_of Up = op.Shl
shift_of Down = op.Shr

by_way : (way : Way) (w x y : ℕ) → (if nat_lt y w then moved_number way w x y else 0) ≡ apply_bits (shift_of way) w x y
by_way Up w x y = refl
by_way Down w x y = refl

-- a shift by less than the width, and by more
shift_small : (way : Way) (w x y : ℕ) → x < 2 ^ w → moved_number way w x y ≡ apply_bits (shift_of way) w x y
shift_small way w x y l =
    ⊎_elim (λ (h : y < w). ap (λ b. if b then moved_number way w x y else 0) (sym (test_true y w h)) ∙ by_way way w x y)
    (λ (h : w ≤ y). moved_past way w x y l h ∙ ap (λ b. if b then moved_number way w x y else 0) (sym (test_false y w h)) ∙ by_way way w x y) (cases_lt y w)

shift_large : (way : Way) (w x y : ℕ) → w ≤ y → 0 ≡ apply_bits (shift_of way) w x y
shift_large way w x y h = ap (λ b. if b then moved_number way w x y else 0) (sym (test_false y w h)) ∙ by_way way w x y

-- the number of a shift, where its near bits moved the number, and far bits leave nothing of it
shift_number : (way : Way) (w x value amount low high k : ℕ) (over : Bool) → x < 2 ^ w → value ≡ moved_number way w x low → over ≡ nat_lt 0 high →
    high * 2 ^ k + low ≡ amount → (0 < high → w ≤ 2 ^ k) →
    bit_of (not over) * value ≡ apply_bits (shift_of way) w x amount
shift_number way w x value amount low high k over l e f g h =
    ⊎_elim
    (λ (m : 0 < high).
    let b : over ≡ true = f ∙ test_true 0 high m in
    let p : 2 ^ k ≤ high * 2 ^ k = below_product (2 ^ k) high m in
    ap (λ z. bit_of (not z) * value) b ∙ nothing value ∙ shift_large way w x amount (let q = h m in omega (arith, p, g, q)))
    (λ (m : high ≤ 0).
    let b : over ≡ false = f ∙ test_false 0 high m in
    let none : high ≡ 0 = omega arith in
    let same : low ≡ amount = (let z = ap (λ i. i * 2 ^ k) none in omega (arith, g, z)) in
    ap (λ z. bit_of (not z) * value) b ∙ once value ∙ e ∙ shift_small way w x low l ∙ ap (apply_bits (shift_of way) w x) same)
    (cases_lt 0 high) where
      nothing : (n : ℕ) → 0 * n ≡ 0
      nothing n = omega arith

      once : (n : ℕ) → 1 * n ≡ n
      once n = omega arith

      below_product : (p n : ℕ) → 0 < n → p ≤ n * p
      below_product p n m = subst (λ z. p ≤ z) (mul_comm p n) (le-mul_of_pos_right {m = n} p m)

abbrev pub IsShift : Way → List Lit → List Lit → (ℕ → Bool) → List Lit → Type 0
IsShift way xs ys v o = number v o ≡ apply_bits (shift_of way) (length xs) (number v xs) (number v ys)

some_left : (v : ℕ → Bool) (k : ℕ) (ys : List Lit) → 0 < number v (drop k ys) → k < length ys
some_left v k ys h =
    ⊎_elim (λ (l : k < length ys). l) (λ (l : length ys ≤ k). absurd
    (let e : number v (drop k ys) ≡ 0 = ap (number v) (drop_all k ys l) in omega (arith, e, h))) (cases_lt k (length ys))

pub shifted_good : (way : Way) (xs ys : List Lit) (old : List Gate) → AllBelow (next_variable old) xs → AllBelow (next_variable old) ys →
    Good (List Lit) (AreBits (length xs)) (IsShift way xs ys) old (shifted way xs ys old)
shifted_good way xs ys old p q =
    let w : ℕ = length xs in
    let k : ℕ = near w 0 ys in
    let s = near_splits w 0 ys in
    let low : List Lit = take k ys in
    let high : List Lit = drop k ys in
    let one : Out (List Lit) = shifted_near way xs 0 low old in
    let g = shifted_near_good way xs 0 low old s.near p (all_below_take (next_variable old) k ys q) in
    let n = grows_length old one.gates g.grows in
    let d = g.within in
    let over : Out Lit = any_bit false_literal high one.gates in
    let h = any_good false_literal high one.gates (omega arith) (all_below_drop (next_variable one.gates) k ys (all_below_more _ _ ys n q)) in
    let m = grows_length one.gates over.gates h.grows in
    let b = h.within in
    let mask : List Lit = replicate (length one.value) (complement over.value) in
    let last : Out (List Lit) = joined_each joint.And one.value mask over.gates in
    let i = joined_each_good joint.And one.value mask over.gates (sym (length-replicate (length one.value) (complement over.value))) tt
    (all_below_more _ _ one.value m d.below)
    (all_below_replicate (next_variable over.gates) (length one.value) (complement over.value) b) in
    follow (AreBits w) (IsShift way xs ys) old one last last.value g
    (follow (AreBits (length one.value)) (λ v o. (value_of v over.value ≡ nat_lt 0 (number v high))
    × (number v o ≡ bit_and (number v one.value) (number v mask))) one.gates over last last.value h i (λ a y z. z)
    (λ v t e f. (e ∙ starts_false v t (nat_lt 0 (number v high)), f)))
    (λ a y z. record { count = z.count ∙ y.count; below = z.below })
    (λ v t e f.
    let masked : number v last.value ≡ bit_of (not (value_of v over.value)) * number v one.value
    = f.1 ∙ and_comm (number v one.value) (number v mask)
    ∙ and_copies v (length one.value) (complement over.value) (not (value_of v over.value)) (number v one.value) (value_of-complement v over.value)
    (number_below v one.value) in
    let first : number v one.value ≡ moved_number way w (number v xs) (number v low) = e ∙ ap (moved_number way w (number v xs)) (once (number v low)) in
    masked
    ∙ shift_number way w (number v xs) (number v one.value) (number v ys) (number v low) (number v high) k (value_of v over.value) (number_below v xs) first f.0
    (number_split v k ys s.within) (λ z. let r = s.far (some_left v k ys z) in let c : 0 + k ≡ k = omega arith in subst (λ y. w ≤ 2 ^ y) c r)) where
      once : (a : ℕ) → 2 ^ 0 * a ≡ a
      once a = omega arith

      starts_false : (v : ℕ → Bool) (t : v 1 ≡ true) (c : Bool) → (value_of v false_literal || c) ≡ c
      starts_false v t c = rw t refl
