-- Hexadecimal digits.
use Rattle.std.proofs.Common.{◌≡◌, ℕ, ◌+◌, ◌*◌, ◌^◌, ◌<◌, ◌≤◌, true, List, [], ◌∷◌, length, refl, add-one, lit<, arith}
use Rattle.std.specs.Prelude.{nat_le}
use Rattle.std.proofs.Math.Nat.{pow-suc, pow-le-pow_right}
use Rattle.std.proofs.lemmas.Bool.Decides.{nat_tests}
use Rattle.ygg_sched.specs.Numbers.{is_short}

-- one digit more
pub grows : (i n d : ℕ) → n < 16 ^ i → d < 16 → 16 * n + d < 16 ^ (i + 1)
grows i n d small digit =
    let whole : 16 ^ (i + 1) ≡ 16 ^ i * 16 = rw (add-one i) (pow-suc 16 i) in
    rw whole (omega arith)

-- at most 16 digits give a number below 2 ^ 64
pub room : (i n d : ℕ) → i < 16 → n < 16 ^ i → d < 16 → 16 * n + d < 2 ^ 64
room i n d short small digit =
    let most : 16 ^ (i + 1) ≤ 16 ^ 16 = pow-le-pow_right (lit< tt) {i = i + 1} {j = 16} (omega arith) in
    omega (arith, grows i n d small digit, most)

-- 1 to 16 bytes
pub short : (bytes : List ℕ) → 0 < length bytes → length bytes ≤ 16 → is_short bytes ≡ true
short [] some few = absurd (omega arith)
short (b ∷ bytes) some few = let test : nat_le (length (b ∷ bytes)) 16 ≡ true = grind (arith, nat_tests) in rw test refl
