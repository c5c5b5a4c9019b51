-- Items of lists by their places.
use Rattle.std.proofs.Common.{◌≡◌, ◌<◌, ◌+◌, ℕ, zero, suc, List, [], ◌∷◌, ◌++◌, length, refl, ap, arith}
use Rattle.std.specs.Prelude.{slice_get}

-- an item of a list with others after it
pub get_left : {X : Type 0} (xs ys : List X) (k : ℕ) → k < length xs → slice_get (xs ++ ys) k ≡ slice_get xs k
get_left [] ys k h = absurd (omega (arith, h))
get_left (x ∷ xs) ys zero h = refl
get_left (x ∷ xs) ys (suc k) h = get_left xs ys k (omega (arith, h))

-- an item of a list with others before it
pub get_right : {X : Type 0} (xs ys : List X) (n k : ℕ) → length xs + k ≡ n → slice_get (xs ++ ys) n ≡ slice_get ys k
get_right [] ys n k h = let e : n ≡ k = omega (arith, h) in ap (slice_get ys) e
get_right (x ∷ xs) ys zero k h = absurd (omega (arith, h))
get_right (x ∷ xs) ys (suc n) k h = get_right xs ys n k (omega (arith, h))
