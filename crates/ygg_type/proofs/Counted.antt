-- Picks that are counted as 1,000,000 where they are more.
use Rattle.std.proofs.Common.{◌≡◌, ℕ, ◌+◌, min, arith}
use Rattle.std.proofs.lemmas.Bool.Decides.{nat_tests}
use Rattle.ygg_type.specs.ygg_syntax.Budget.{limit}
use Rattle.ygg_type.specs.ygg_type_rules.Limits.{picks_fit}

pub picks_stay : (n : ℕ) → picks_fit (min limit n) ≡ picks_fit n
picks_stay n = grind (arith, nat_tests)

pub more_picks_stay : (n m : ℕ) → picks_fit (min limit n + min limit m) ≡ picks_fit (n + m)
more_picks_stay n m = grind (arith, nat_tests)
