-- Which bytes are symbols.
use Rattle.std.proofs.Common.{◌≡◌, ◌≢◌, ℕ, ◌<◌, Bool, false, ◌||◌, ◌&&◌, ◌==◌, is_some, List, [], ◌∷◌, ◌++◌, length, None, arith}
use Rattle.std.proofs.Math.Bool.{and-false}
use Rattle.std.proofs.lemmas.Bool.Decides.{nat_tests}
use Rattle.ygg_base.specs.Lexing.{is_lower, is_digit, symbol_of, extends}

-- whether the two bytes are a symbol, by the second
abbrev pub is_pair : ℕ → ℕ → Bool
is_pair a b =
    (b == 61 && (a == 33 || a == 61 || a == 60 || a == 62))
    || (b == 62 && (a == 61 || a == 62 || a == 45))
    || (b == 60 && a == 60)

-- the symbols of two bytes
pub pair_is : (a b : ℕ) → is_some (symbol_of (a ∷ b ∷ [])) ≡ is_pair a b
pair_is a b = simp and-false (grind (arith, nat_tests))

-- no symbol has three bytes
pub longer_is_none : (a b c : ℕ) (others : List ℕ) → symbol_of (a ∷ b ∷ c ∷ others) ≡ None
longer_is_none a b c others = simp and-false

-- no byte makes a sign of two bytes longer
pub sign_ends : (a : ℕ) (others : List ℕ) (b : ℕ) → a ≢ 35 → is_lower a ≡ false → is_digit a ≡ false → 0 < length others → extends (a ∷ others) b ≡ false
sign_ends a [] b comment letter digit some = absurd (omega arith)
sign_ends a (c ∷ []) b comment letter digit some = let none = longer_is_none a c b [] in grind (arith, nat_tests)
sign_ends a (c ∷ d ∷ others) b comment letter digit some = let none = longer_is_none a c d (others ++ b ∷ []) in grind (arith, nat_tests)
