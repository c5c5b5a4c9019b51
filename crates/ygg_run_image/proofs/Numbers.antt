-- Numbers and their bytes.
use Rattle.std.proofs.Common.{◌≡◌, ℕ, zero, suc, ◌+◌, ◌*◌, ◌/◌, ◌%◌, ◌^◌, ◌<◌, ◌≤◌, ◌∷◌, length, replicate, fold, refl, sym, ap, ◌∙◌, arith, pow-suc, mul_comm}
use Rattle.std.proofs.Math.Arith.{mod-mul}
use Rattle.std.proofs.Math.Nat.{pow-le-pow_right, mod-eq_of_lt}
use Rattle.std.proofs.lemmas.Nat.{pow-add}
use Rattle.std.specs.Int.{byte_at, bytes_high_first}
use Rattle.ygg_run_image.specs.Image.{number_in}

-- there are as many bytes as are asked for
pub length-bytes : (k n : ℕ) → length (bytes_high_first k n) ≡ k
length-bytes zero n = refl
length-bytes (suc k) n = ap suc (length-bytes k n)

-- a byte more holds the next digits
next_byte : (k n high : ℕ) → (high * 256 + byte_at k n) * 256 ^ k + n % 256 ^ k ≡ high * 256 ^ suc k + n % 256 ^ suc k
next_byte zero n high = omega arith
next_byte (suc k) n high =
    let unit = 256 ^ suc k in
    let wider : 256 ^ suc (suc k) ≡ 256 * unit = pow-suc 256 (suc k) ∙ mul_comm unit 256 in
    let some : 0 < unit = pow-le-pow_right {n = 256} (omega arith) {i = 0} {j = suc k} (omega arith) in
    rw (wider, mod-mul n {m = 256} {c = unit} (omega arith) some) (omega arith)

-- bytes behind a number that was read give its low digits
bytes_behind : (k n high : ℕ) → fold (λ h byte. h * 256 + byte) high (bytes_high_first k n) ≡ high * 256 ^ k + n % 256 ^ k
bytes_behind zero n high = omega arith
bytes_behind (suc k) n high = bytes_behind k n (high * 256 + byte_at k n) ∙ next_byte k n high

-- the bytes of a number give its low digits
pub number-bytes : (k n : ℕ) → number_in (bytes_high_first k n) ≡ n % 256 ^ k
number-bytes k n = bytes_behind k n 0 ∙ omega arith

-- so many bytes hold eight times as many digits
bytes_digits : (k : ℕ) → 256 ^ k ≡ 2 ^ (8 * k)
bytes_digits zero = refl
bytes_digits (suc k) =
    let more : 8 * suc k ≡ 8 + 8 * k = omega arith in
    let left : 256 ^ suc k ≡ 256 * 256 ^ k = pow-suc 256 k ∙ mul_comm (256 ^ k) 256 in
    let right : 2 ^ (8 + 8 * k) ≡ 256 * 2 ^ (8 * k) = pow-add 2 8 (8 * k) in
    left ∙ ap (λ n. 256 * n) (bytes_digits k) ∙ sym right ∙ ap (λ n. 2 ^ n) (sym more)

-- a number of so many digits fits the bytes of a word
pub fits_bytes : (width n : ℕ) → n < 2 ^ width → n < 256 ^ ((width + 7) / 8)
fits_bytes width n h =
    let wide : 2 ^ width ≤ 2 ^ (8 * ((width + 7) / 8)) =
    pow-le-pow_right {n = 2} (omega arith) {i = width} {j = 8 * ((width + 7) / 8)} (omega arith) in
    let same = bytes_digits ((width + 7) / 8) in
    omega (arith, h, wide, same)

-- a word reads back from its bytes
pub word-bytes : (width n : ℕ) → n < 2 ^ width → number_in (bytes_high_first ((width + 7) / 8) n) % 2 ^ width ≡ n
word-bytes width n h =
    ap (λ m. m % 2 ^ width) (number-bytes ((width + 7) / 8) n ∙ mod-eq_of_lt (fits_bytes width n h)) ∙ mod-eq_of_lt h

-- the bytes of zero are zeros
pub zero-bytes : (k : ℕ) → bytes_high_first k 0 ≡ replicate k 0
zero-bytes zero = refl
zero-bytes (suc k) = ap (λ bs. byte_at k 0 ∷ bs) (zero-bytes k) ∙ ap (λ b. b ∷ replicate k 0) (zero_byte k) where
  zero_byte : (i : ℕ) → byte_at i 0 ≡ 0
  zero_byte zero = refl
  zero_byte (suc i) = omega arith

-- one more byte behind fewer than eight fits 64 digits
pub byte_more : (count n : ℕ) → count < 8 → n < 256 ^ count → n * 256 + 255 < 2 ^ 64
byte_more count n few h =
    let most : 256 ^ count ≤ 256 ^ 7 = pow-le-pow_right {n = 256} (omega arith) {i = count} {j = 7} (omega (arith, few)) in
    omega (arith, h, most)
