-- Great powers of two.
use Rattle.std.proofs.Common.{◌≤◌, ◌<◌, ◌^◌, ℕ, arith}
use Rattle.std.proofs.Math.Pow.{pow_mono}

pub at_most_power : (n w : ℕ) → n ≤ 4096 → 12 ≤ w → n ≤ 2 ^ w
at_most_power n w h k = let p : 2 ^ 12 ≤ 2 ^ w = pow_mono k in omega arith

pub below_power : (n w : ℕ) → n < 2 ^ 64 → 64 ≤ w → n < 2 ^ w
below_power n w h k = let p : 2 ^ 64 ≤ 2 ^ w = pow_mono k in omega arith
