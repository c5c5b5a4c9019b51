-- What operations give of one word twice, or of a word and 0, 1 or all ones.
use Rattle.std.proofs.Common.{◌≡◌, ◌≤◌, ◌<◌, ◌==◌, ◌&&◌, ◌+◌, ◌-◌, ◌*◌, ◌/◌, ◌%◌, ◌^◌, ℕ, Bool, true, false, not, if◌then◌else◌, refl}
use Rattle.std.proofs.Common.{sym, ap, ◌∙◌, subst, arith, bit_xor}
use Rattle.std.specs.Prelude.{nat_le, nat_lt}
use Rattle.std.specs.Int.Bits.{and_self, or_self, xor_self, xor_zero_r}
use Rattle.std.proofs.lemmas.Bool.Decides.{nat_tests, Decides-eqb}
use Rattle.std.proofs.Math.Nat.{mod-eq_of_lt, mod_self, zero-mod, zero-div, div-one, add-mod_right}
use Rattle.ygg_value.specs.Number.{Number, IsWord}
use Rattle.ygg_value.specs.Words.{word, apply_to, not_of, bit_of}
use Rattle.ygg_value.specs.declared.operation.Op.TheVariants.{Sub, Mul, And, Or, Xor, Shl, Shr, Lt, Le, Gt, Ge, Imp}
use Rattle.ygg_shape_words.proofs.Terms.{digit_is}

-- tests of numbers
not_below : (a : ℕ) → nat_lt a a ≡ false
not_below a = grind (arith, nat_tests)

at_most_itself : (a : ℕ) → nat_le a a ≡ true
at_most_itself a = grind (arith, nat_tests)

none_below : (a b : ℕ) → b ≡ 0 → nat_lt a b ≡ false
none_below a b e = grind (arith, nat_tests)

at_least_none : (a b : ℕ) → b ≡ 0 → nat_le b a ≡ true
at_least_none a b e = grind (arith, nat_tests)

at_most : (m a : ℕ) → a ≤ m → nat_le a m ≡ true
at_most m a l = grind (arith, nat_tests)

not_above : (m a : ℕ) → a ≤ m → nat_lt m a ≡ false
not_above m a l = grind (arith, nat_tests)

some_below : (w : ℕ) → 1 ≤ w → (b : ℕ) → b ≡ 0 → nat_lt b w ≡ true
some_below w l b e = grind (arith, nat_tests)

is_true : (a b : ℕ) → a ≡ b → (a == b) ≡ true
is_true a b e = (Decides-eqb a b).1 e

refuted : (c : Bool) → (c && false) ≡ false
refuted true = refl
refuted false = refl

-- a known word whose digits are all 1
most : (p b : ℕ) → b < p → p - 1 - b ≡ 0 → b ≡ p - 1
most p b l e = omega arith

least : (p k x : ℕ) → k ≡ p - 1 → x < p → x ≤ k
least p k x m l = omega arith

-- no word of its width is more
up_to : (k x : Number) → IsWord k → IsWord x → x.width ≡ k.width → (not_of k).bits ≡ 0 → x.bits ≤ k.bits
up_to k x h i e g =
    least (2 ^ k.width) k.bits x.bits (most (2 ^ k.width) k.bits h.fits g) (subst (λ w. x.bits < 2 ^ w) e i.fits)

-- the digit 1, where it is all ones
one_digit : (k : Number) → IsWord k → k.width ≡ 1 → (not_of k).bits ≡ 0 → k.bits ≡ 1
one_digit k h e g = most (2 ^ 1) k.bits (subst (λ w. k.bits < 2 ^ w) e h.fits) (subst (λ w. 2 ^ w - 1 - k.bits ≡ 0) e g)

-- of one word twice
pub and_twice : (x : Number) → x ≡ apply_to And x x
and_twice x = ap (word x.width) (sym (and_self x.bits))

pub or_twice : (x : Number) → x ≡ apply_to Or x x
or_twice x = ap (word x.width) (sym (or_self x.bits))

back : (a p : ℕ) → a + p - a ≡ p
back a p = omega arith

pub sub_twice : (x : Number) → apply_to Sub x x ≡ word x.width 0
sub_twice x = ap (λ z. word x.width (z % 2 ^ x.width)) (back x.bits (2 ^ x.width)) ∙ ap (word x.width) (mod_self (2 ^ x.width))

pub xor_twice : (x : Number) → apply_to Xor x x ≡ word x.width 0
xor_twice x = ap (word x.width) (xor_self x.bits)

pub le_twice : (x : Number) → apply_to Le x x ≡ word 1 1
le_twice x = ap (λ z. word 1 (bit_of z)) (at_most_itself x.bits)

pub lt_twice : (x : Number) → apply_to Lt x x ≡ word 1 0
lt_twice x = ap (λ z. word 1 (bit_of z)) (not_below x.bits)

zero_not_one : (a : ℕ) (c d : Bool) → (a == 1) ≡ c → (a == 0) ≡ d → (c && d) ≡ false
zero_not_one a true true e g = absurd (differ a ((Decides-eqb a 1).0 e) ((Decides-eqb a 0).0 g)) where
  differ : (a : ℕ) → a ≡ 1 → a ≡ 0 → ⊥
  differ a e g = omega arith
zero_not_one a true false e g = refl
zero_not_one a false d e g = refl

pub imp_twice : (x : Number) → apply_to Imp x x ≡ word 1 1
imp_twice x = ap (λ z. word 1 (bit_of (not z))) (zero_not_one x.bits (x.bits == 1) (x.bits == 0) refl refl)

-- of 0 and a word
pub zero_imp : (x y : Number) → x.bits ≡ 0 → apply_to Imp x y ≡ word 1 1
zero_imp x y e = ap (λ z. word 1 (bit_of (not (z == 1 && y.bits == 0)))) e

pub zero_le : (x y : Number) → x.bits ≡ 0 → apply_to Le x y ≡ word 1 1
zero_le x y e = ap (λ z. word 1 (bit_of z)) (at_least_none y.bits x.bits e)

pub zero_gt : (x y : Number) → x.bits ≡ 0 → apply_to Gt x y ≡ word 1 0
zero_gt x y e = ap (λ z. word 1 (bit_of z)) (none_below y.bits x.bits e)

pub zero_xor : (x y : Number) → x.bits ≡ 0 → x.width ≡ y.width → y ≡ apply_to Xor x y
zero_xor x y e w = ap (λ z. word z y.bits) (sym w) ∙ ap (λ z. word x.width (bit_xor z y.bits)) (sym e)

no_times : (a b p : ℕ) → a ≡ 0 → a ≡ (a * b) % p
no_times a b p e = e ∙ sym (zero-mod p) ∙ ap (λ z. z % p) (none b) ∙ ap (λ z. (z * b) % p) (sym e) where
  none : (b : ℕ) → 0 ≡ 0 * b
  none b = omega arith

pub zero_mul : (x y : Number) → x.bits ≡ 0 → x ≡ apply_to Mul x y
zero_mul x y e = ap (word x.width) (no_times x.bits y.bits (2 ^ x.width) e)

no_up : (t : Bool) (a b p : ℕ) → a ≡ 0 → a ≡ (if t then (a * b) % p else 0)
no_up true a b p e = no_times a b p e
no_up false a b p e = e

pub zero_shl : (x y : Number) → x.bits ≡ 0 → x ≡ apply_to Shl x y
zero_shl x y e = ap (word x.width) (no_up (nat_lt y.bits x.width) x.bits (2 ^ y.bits) (2 ^ x.width) e)

no_down : (t : Bool) (a b : ℕ) → a ≡ 0 → a ≡ (if t then a / b else 0)
no_down true a b e = e ∙ sym (zero-div b) ∙ ap (λ z. z / b) (sym e)
no_down false a b e = e

pub zero_shr : (x y : Number) → x.bits ≡ 0 → x ≡ apply_to Shr x y
zero_shr x y e = ap (word x.width) (no_down (nat_lt y.bits x.width) x.bits (2 ^ y.bits) e)

-- of all ones and a word
known_imp : (c : Bool) → word 1 (bit_of c) ≡ apply_to Imp (word 1 1) (word 1 (bit_of c))
known_imp true = refl
known_imp false = refl

pub ones_imp : (x y : Number) → IsWord x → IsWord y → x.width ≡ 1 → y.width ≡ 1 → (not_of x).bits ≡ 0 → y ≡ apply_to Imp x y
ones_imp x y h i e g z =
    let d = digit_is y i g in
    d ∙ known_imp (y.bits == 1) ∙ ap (apply_to Imp (word 1 1)) (sym d) ∙ ap (λ (n : ℕ). word 1 (bit_of (not (n == 1 && y.bits == 0)))) (sym (one_digit x h e z))

pub ones_ge : (x y : Number) → IsWord x → IsWord y → x.width ≡ y.width → (not_of x).bits ≡ 0 → apply_to Ge x y ≡ word 1 1
ones_ge x y h i e z = ap (λ t. word 1 (bit_of t)) (at_most x.bits y.bits (up_to x y h i (sym e) z))

pub ones_lt : (x y : Number) → IsWord x → IsWord y → x.width ≡ y.width → (not_of x).bits ≡ 0 → apply_to Lt x y ≡ word 1 0
ones_lt x y h i e z = ap (λ t. word 1 (bit_of t)) (not_above x.bits y.bits (up_to x y h i (sym e) z))

-- of a word and 0
imp_known : (c : Bool) → not_of (word 1 (bit_of c)) ≡ apply_to Imp (word 1 (bit_of c)) (word 1 0)
imp_known true = refl
imp_known false = refl

pub imp_zero : (x y : Number) → IsWord x → x.width ≡ 1 → y.bits ≡ 0 → not_of x ≡ apply_to Imp x y
imp_zero x y h e z =
    let d = digit_is x h e in
    ap not_of d ∙ imp_known (x.bits == 1) ∙ ap (λ (n : Number). apply_to Imp n (word 1 0)) (sym d)
    ∙ ap (λ (n : ℕ). word 1 (bit_of (not (x.bits == 1 && n == 0)))) (sym z)

pub ge_zero : (x y : Number) → y.bits ≡ 0 → apply_to Ge x y ≡ word 1 1
ge_zero x y z = ap (λ t. word 1 (bit_of t)) (at_least_none x.bits y.bits z)

pub lt_zero : (x y : Number) → y.bits ≡ 0 → apply_to Lt x y ≡ word 1 0
lt_zero x y z = ap (λ t. word 1 (bit_of t)) (none_below x.bits y.bits z)

pub sub_zero : (x y : Number) → IsWord x → y.bits ≡ 0 → x ≡ apply_to Sub x y
sub_zero x y h z =
    ap (word x.width)
    (sym (mod-eq_of_lt h.fits) ∙ sym (add-mod_right x.bits (2 ^ x.width)) ∙ ap (λ n. n % 2 ^ x.width) (less_none (x.bits + 2 ^ x.width))
    ∙ ap (λ n. (x.bits + 2 ^ x.width - n) % 2 ^ x.width) (sym z)) where
      less_none : (a : ℕ) → a ≡ a - 0
      less_none a = omega arith

pub xor_zero : (x y : Number) → y.bits ≡ 0 → x ≡ apply_to Xor x y
xor_zero x y z = ap (word x.width) (sym (xor_zero_r x.bits) ∙ ap (bit_xor x.bits) (sym z))

times_one : (a : ℕ) → a ≡ a * 1
times_one a = omega arith

up_none : (t : Bool) (a b p : ℕ) → t ≡ true → b ≡ 0 → a < p → a ≡ (if t then (a * 2 ^ b) % p else 0)
up_none true a b p t z l = sym (mod-eq_of_lt l) ∙ ap (λ n. n % p) (times_one a) ∙ ap (λ n. (a * 2 ^ n) % p) (sym z)
up_none false a b p t z l = absurd (cc)

pub shl_zero : (x y : Number) → IsWord x → y.bits ≡ 0 → x ≡ apply_to Shl x y
shl_zero x y h z =
    ap (word x.width) (up_none (nat_lt y.bits x.width) x.bits y.bits (2 ^ x.width) (some_below x.width h.least y.bits z) z h.fits)

down_none : (t : Bool) (a b : ℕ) → t ≡ true → b ≡ 0 → a ≡ (if t then a / 2 ^ b else 0)
down_none true a b t z = sym (div-one a) ∙ ap (λ n. a / 2 ^ n) (sym z)
down_none false a b t z = absurd (cc)

pub shr_zero : (x y : Number) → IsWord x → y.bits ≡ 0 → x ≡ apply_to Shr x y
shr_zero x y h z = ap (word x.width) (down_none (nat_lt y.bits x.width) x.bits y.bits (some_below x.width h.least y.bits z) z)

times_none : (a b p : ℕ) → b ≡ 0 → b ≡ (a * b) % p
times_none a b p e = e ∙ sym (zero-mod p) ∙ ap (λ z. z % p) (none a) ∙ ap (λ z. (a * z) % p) (sym e) where
  none : (a : ℕ) → 0 ≡ a * 0
  none a = omega arith

pub mul_zero : (x y : Number) → x.width ≡ y.width → y.bits ≡ 0 → y ≡ apply_to Mul x y
mul_zero x y w z = ap (λ n. word n y.bits) (sym w) ∙ ap (word x.width) (times_none x.bits y.bits (2 ^ x.width) z)

-- of a word and all ones
pub imp_ones : (x y : Number) → IsWord y → y.width ≡ 1 → (not_of y).bits ≡ 0 → apply_to Imp x y ≡ word 1 1
imp_ones x y h e z =
    ap (λ (n : ℕ). word 1 (bit_of (not (x.bits == 1 && n == 0)))) (one_digit y h e z) ∙ ap (λ t. word 1 (bit_of (not t))) (refuted (x.bits == 1))

pub le_ones : (x y : Number) → IsWord x → IsWord y → x.width ≡ y.width → (not_of y).bits ≡ 0 → apply_to Le x y ≡ word 1 1
le_ones x y h i e z = ap (λ t. word 1 (bit_of t)) (at_most y.bits x.bits (up_to y x i h e z))

pub gt_ones : (x y : Number) → IsWord x → IsWord y → x.width ≡ y.width → (not_of y).bits ≡ 0 → apply_to Gt x y ≡ word 1 0
gt_ones x y h i e z = ap (λ t. word 1 (bit_of t)) (not_above y.bits x.bits (up_to y x i h e z))

-- of a word and 1
pub one_mul : (x y : Number) → IsWord y → x.width ≡ y.width → x.bits ≡ 1 → y ≡ apply_to Mul x y
one_mul x y i w z =
    ap (λ n. word n y.bits) (sym w)
    ∙ ap (word x.width) (sym (mod-eq_of_lt (subst (λ n. y.bits < 2 ^ n) (sym w) i.fits)) ∙ ap (λ n. n % 2 ^ x.width) (one_time y.bits)
    ∙ ap (λ n. (n * y.bits) % 2 ^ x.width) (sym z)) where
      one_time : (a : ℕ) → a ≡ 1 * a
      one_time a = omega arith

pub mul_one : (x y : Number) → IsWord x → y.bits ≡ 1 → x ≡ apply_to Mul x y
mul_one x y h z =
    ap (word x.width) (sym (mod-eq_of_lt h.fits) ∙ ap (λ n. n % 2 ^ x.width) (times_one x.bits) ∙ ap (λ n. (x.bits * n) % 2 ^ x.width) (sym z))
