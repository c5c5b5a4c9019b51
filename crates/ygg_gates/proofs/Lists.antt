-- Items at places of lists.
use Rattle.std.proofs.Common.{◌≡◌, ◌<◌, ℕ, zero, suc, List, [], ◌∷◌, ◌++◌, length, take, Some, slice_get, subst, arith, refl}

-- the item between two lists
pub middle : {X : Type 0} (before : List X) (x : X) (after : List X) → slice_get (before ++ x ∷ after) (length before) ≡ Some x
middle [] x after = refl
middle (y ∷ before) x after = let e : suc (length before) ≡ length (y ∷ before) = omega arith in
    subst (λ k. slice_get (y ∷ (before ++ x ∷ after)) k ≡ Some x) e (middle before x after)

-- an item at a place among the first ones
pub among_first : {X : Type 0} (ns : List X) (k q : ℕ) (n : X) → q < k → slice_get ns q ≡ Some n → slice_get (take k ns) q ≡ Some n
among_first ns zero q n l e = absurd (omega arith)
among_first [] (suc k) q n l e = absurd (cc)
among_first (m ∷ ns) (suc k) zero n l e = e
among_first (m ∷ ns) (suc k) (suc q) n l e = among_first ns k q n (omega arith) e
