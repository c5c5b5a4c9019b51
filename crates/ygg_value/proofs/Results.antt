-- What an operation gives fits its width, and what a width cuts off.
use Rattle.std.proofs.Common.{
  ◌≡◌,
  ℕ,
  ◌+◌,
  ◌-◌,
  ◌%◌,
  ◌/◌,
  ◌*◌,
  ◌^◌,
  ◌<◌,
  ◌≤◌,
  Bool,
  true,
  false,
  if◌then◌else◌,
  nat_lt,
  min,
  ◌⊎◌,
  inl,
  inr,
  sym,
  ap,
  subst,
  ◌∙◌,
  arith,
  mod-lt,
  mod-eq_of_lt,
}
use Rattle.std.proofs.lemmas.Nat.{or_lt, xor_lt, pow_pos}
use Rattle.std.specs.Int.Bits.{and_lt}
use Rattle.std.proofs.Math.Nat.{div-le_self, min-eq_left, min-eq_right, pow-le-pow_right, lt_of_lt_of_le}
use Rattle.std.proofs.lemmas.Bool.{cases_lt}
use Rattle.std.proofs.Math.Pow.{mod-mod-pow}
use Rattle.ygg_value.specs.Number.{Number, IsWord}
use Rattle.ygg_value.specs.Words.{word, bit_of, apply_to, result_width, CanApply, not_of, resized}
use Rattle.ygg_value.specs.declared.operation.Op.{Op}
use Rattle.ygg_value.specs.declared.operation.Op.TheVariants.{Add, Sub, Mul, And, Or, Xor, Shl, Shr, Eq, Ne, Lt, Le, Gt, Ge, Imp}

-- what comes of a test is a single digit
pub bit_of-lt : (test : Bool) → bit_of test < 2 ^ 1
bit_of-lt true = omega arith
bit_of-lt false = omega arith

-- a cut fits
cut-lt : (n w : ℕ) → n % 2 ^ w < 2 ^ w
cut-lt n w = mod-lt n (pow_pos w)

-- 0 fits where a shift is too far
shifted-lt : (test : Bool) (n w : ℕ) → n < 2 ^ w → (if test then n else 0) < 2 ^ w
shifted-lt true n w h = h
shifted-lt false n w h = pow_pos w

-- what fits a width fits an equal one
of_width : (w v n : ℕ) → w ≡ v → n < 2 ^ v → n < 2 ^ w
of_width w v n e h = let P : ℕ → Type 0 = λ x. n < 2 ^ x in subst P (sym e) h

-- the result is below 2 to its width, at any widths
pub apply_to-lt : (op : Op) (a b : Number) → a.bits < 2 ^ a.width → b.bits < 2 ^ b.width → CanApply op a b →
    (apply_to op a b).bits < 2 ^ (apply_to op a b).width
apply_to-lt Add a b x y h = cut-lt (a.bits + b.bits) a.width
apply_to-lt Sub a b x y h = cut-lt (a.bits + 2 ^ a.width - b.bits) a.width
apply_to-lt Mul a b x y h = cut-lt (a.bits * b.bits) a.width
apply_to-lt And a b x y h = and_lt a.width a.bits b.bits x (of_width a.width b.width b.bits h y)
apply_to-lt Or a b x y h = or_lt a.width a.bits b.bits x (of_width a.width b.width b.bits h y)
apply_to-lt Xor a b x y h = xor_lt a.width a.bits b.bits x (of_width a.width b.width b.bits h y)
apply_to-lt Shl a b x y h = shifted-lt (nat_lt b.bits a.width) (a.bits * 2 ^ b.bits % 2 ^ a.width) a.width (cut-lt (a.bits * 2 ^ b.bits) a.width)
apply_to-lt Shr a b x y h = shifted-lt (nat_lt b.bits a.width) (a.bits / 2 ^ b.bits) a.width (omega (arith, div-le_self a.bits (2 ^ b.bits)))
apply_to-lt Eq a b x y h = bit_of-lt _
apply_to-lt Ne a b x y h = bit_of-lt _
apply_to-lt Lt a b x y h = bit_of-lt _
apply_to-lt Le a b x y h = bit_of-lt _
apply_to-lt Gt a b x y h = bit_of-lt _
apply_to-lt Ge a b x y h = bit_of-lt _
apply_to-lt Imp a b x y h = bit_of-lt _

-- the width of the result is that of the first operand, or 1
result_width-within : (op : Op) (w : ℕ) → 1 ≤ w → w ≤ 64 → (1 ≤ result_width op w) × (result_width op w ≤ 64)
result_width-within Add w p q = (p, q)
result_width-within Sub w p q = (p, q)
result_width-within Mul w p q = (p, q)
result_width-within And w p q = (p, q)
result_width-within Or w p q = (p, q)
result_width-within Xor w p q = (p, q)
result_width-within Shl w p q = (p, q)
result_width-within Shr w p q = (p, q)
result_width-within Eq w p q = (omega arith, omega arith)
result_width-within Ne w p q = (omega arith, omega arith)
result_width-within Lt w p q = (omega arith, omega arith)
result_width-within Le w p q = (omega arith, omega arith)
result_width-within Gt w p q = (omega arith, omega arith)
result_width-within Ge w p q = (omega arith, omega arith)
result_width-within Imp w p q = (omega arith, omega arith)

-- what is made of words is a word
pub apply_to-IsWord : (op : Op) (a b : Number) → IsWord a → IsWord b → CanApply op a b → IsWord (apply_to op a b)
apply_to-IsWord op a b x y h =
    let (least, most) = result_width-within op a.width x.least x.most in
    record { least = least; most = most; fits = apply_to-lt op a b x.fits y.fits h }

pub not_of-IsWord : (a : Number) → IsWord a → IsWord (not_of a)
not_of-IsWord a x = record { least = x.least; most = x.most; fits = omega (arith, pow_pos a.width) }

pub resized-IsWord : (a : Number) (width : ℕ) → 1 ≤ width → width ≤ 64 → IsWord (resized a width)
resized-IsWord a width least most = record { least = least; most = most; fits = cut-lt a.bits width }

-- a cut to n digits and then to no more
pub cut-narrower : (a n m : ℕ) → m ≤ n → a % 2 ^ n % 2 ^ m ≡ a % 2 ^ m
cut-narrower a n m h =
    let whole : (n - m) + m ≡ n = omega arith in
    subst (λ k. a % 2 ^ k % 2 ^ m ≡ a % 2 ^ m) whole (mod-mod-pow a (n - m) m)

-- a cut to n digits and then to no fewer
cut-wider : (a n m : ℕ) → n ≤ m → a % 2 ^ n % 2 ^ m ≡ a % 2 ^ n
cut-wider a n m h = mod-eq_of_lt (lt_of_lt_of_le (cut-lt a n) (pow-le-pow_right {n = 2} (omega arith) h))

-- two cuts keep as many digits as the narrower
pub cut-cut : (a n m : ℕ) → a % 2 ^ n % 2 ^ m ≡ a % 2 ^ min n m
cut-cut a n m = go (cases_lt n m) where
  go : (n < m) ⊎ (m ≤ n) → a % 2 ^ n % 2 ^ m ≡ a % 2 ^ min n m
  go (inl h) = cut-wider a n m (omega arith) ∙ ap (λ k. a % 2 ^ k) (sym (min-eq_left (omega arith)))
  go (inr h) = cut-narrower a n m h ∙ ap (λ k. a % 2 ^ k) (sym (min-eq_right h))

-- two resizes keep as many low digits as the narrower
pub resized-resized : (a : Number) (first second : ℕ) → resized (resized a first) second ≡ word second (a.bits % 2 ^ min first second)
resized-resized a first second = ap (word second) (cut-cut a.bits first second)

-- a resize that passes through a width that is not narrower is the resize
pub resized-through : (a : Number) (first second : ℕ) → second ≤ first → resized (resized a first) second ≡ resized a second
resized-through a first second h = ap (word second) (cut-narrower a.bits first second h)

-- a word that was made wider gives itself back at every width
pub resized-wider : (a : Number) (first second : ℕ) → a.bits < 2 ^ a.width → a.width ≤ first → resized (resized a first) second ≡ resized a second
resized-wider a first second h wide =
    ap (λ n. word second (n % 2 ^ second)) (mod-eq_of_lt (lt_of_lt_of_le h (pow-le-pow_right {n = 2} (omega arith) wide)))

-- a resize to a word's own width changes nothing
pub resized-own : (a : Number) → IsWord a → resized a a.width ≡ a
resized-own a x = ap (word a.width) (mod-eq_of_lt x.fits)
