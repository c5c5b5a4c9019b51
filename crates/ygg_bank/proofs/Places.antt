-- Items of lists by their places.
use Rattle.std.proofs.Common.{
  ◌≡◌,
  ◌<◌,
  ◌≤◌,
  ℕ,
  zero,
  suc,
  ◌+◌,
  Bool,
  true,
  false,
  cond,
  not,
  ◌||◌,
  List,
  [],
  ◌∷◌,
  ◌++◌,
  length,
  length-append,
  Option,
  Some,
  refl,
  sym,
  ap,
  ◌∙◌,
  subst,
  arith,
  slice_get,
  slice_index_or,
}
use Rattle.std.specs.List.{list_any, position_or_len}

-- an item stays where more items come after the list
pub in_front : {X : Type 0} (xs ys : List X) (k : ℕ) (x : X) → slice_get xs k ≡ Some x → slice_get (xs ++ ys) k ≡ Some x
in_front [] ys k x e = absurd (cc)
in_front (y ∷ xs) ys zero x e = e
in_front (y ∷ xs) ys (suc k) x e = in_front xs ys k x e

-- the item after a list
pub at_end : {X : Type 0} (xs : List X) (x : X) → slice_get (xs ++ x ∷ []) (length xs) ≡ Some x
at_end [] x = refl
at_end (y ∷ xs) x =
    let e : suc (length xs) ≡ length (y ∷ xs) = omega arith in
    subst (λ k. slice_get (y ∷ (xs ++ x ∷ [])) k ≡ Some x) e (at_end xs x)

-- a place with an item is below the length
pub there_below : {X : Type 0} (xs : List X) (k : ℕ) (x : X) → slice_get xs k ≡ Some x → k < length xs
there_below [] k x e = absurd (cc)
there_below (y ∷ xs) zero x e = omega arith
there_below (y ∷ xs) (suc k) x e = let h = there_below xs k x e in omega arith

-- a place below the length has an item
pub below_there : (xs : List ℕ) (k : ℕ) → k < length xs → slice_get xs k ≡ Some (slice_index_or xs k 0)
below_there [] k h = absurd (omega arith)
below_there (x ∷ xs) zero h = refl
below_there (x ∷ xs) (suc k) h = below_there xs k (omega arith)

-- the item at a place that has one
pub item_is : (xs : List ℕ) (k x : ℕ) → slice_get xs k ≡ Some x → slice_index_or xs k 0 ≡ x
item_is xs k x e =
    let f : Some (slice_index_or xs k 0) ≡ Some x = sym (below_there xs k (there_below xs k x e)) ∙ e in cc

-- an item of a longer list is of the shorter one, or the last
pub here_or_last : {X : Type 0} (xs : List X) (y : X) (k : ℕ) (x : X) → slice_get (xs ++ y ∷ []) k ≡ Some x → k < length xs → slice_get xs k ≡ Some x
here_or_last [] y k x e h = absurd (omega arith)
here_or_last (z ∷ xs) y zero x e h = e
here_or_last (z ∷ xs) y (suc k) x e h = here_or_last xs y k x e (omega arith)

-- the item at the last place
pub last_is : {X : Type 0} (xs : List X) (y x : X) (k : ℕ) → length xs ≤ k → slice_get (xs ++ y ∷ []) k ≡ Some x → (k ≡ length xs) × (x ≡ y)
last_is xs y x k l e =
    let b = there_below (xs ++ y ∷ []) k x e in
    let p : k ≡ length xs = omega (arith, length-append xs (y ∷ [])) in
    let f : Some y ≡ Some x = sym (at_end xs y) ∙ ap (slice_get (xs ++ y ∷ [])) (sym p) ∙ e in
    let g : x ≡ y = cc in (p, g)

later : {X : Type 0} (x : X) (xs : List X) (n : ℕ) (y : Option X) → slice_get xs n ≡ y → slice_get (x ∷ xs) (1 + n) ≡ y
later x xs n y s = let e : suc n ≡ 1 + n = omega arith in subst (λ k. slice_get (x ∷ xs) k ≡ y) e s

-- an item that stands at a place and passes the test
pub record Found (X : Type 0) (p : X → Bool) (xs : List X) (place : ℕ) : Type 0 where
  pub it : X
  pub there : slice_get xs place ≡ Some it
  pub passes : p it ≡ true

found_here : {X : Type 0} (p : X → Bool) (x : X) (xs : List X) (b : Bool) → p x ≡ b → (b || list_any p xs) ≡ true →
    (list_any p xs ≡ true → Found X p xs (position_or_len p xs)) → Found X p (x ∷ xs) (cond (not b) (1 + position_or_len p xs) 0)
found_here p x xs true e t h = record { it = x; there = refl; passes = e }
found_here p x xs false e t h = let r = h t in record { it = r.it; there = later x xs (position_or_len p xs) (Some r.it) r.there; passes = r.passes }

-- where some item passes the test, one stands at the place of the first
pub found : {X : Type 0} (p : X → Bool) (xs : List X) → list_any p xs ≡ true → Found X p xs (position_or_len p xs)
found p [] e = absurd (cc)
found p (x ∷ xs) e = found_here p x xs (p x) refl e (found p xs)

goes_last : {X : Type 0} (p : X → Bool) (x : X) (xs : List X) (b : Bool) → (b || list_any p xs) ≡ false →
    (list_any p xs ≡ false → position_or_len p xs ≡ length xs) → cond (not b) (1 + position_or_len p xs) 0 ≡ length (x ∷ xs)
goes_last p x xs true t h = absurd (cc)
goes_last p x xs false t h = let e = h t in omega arith

-- where no item passes the test, the place is the end
pub last : {X : Type 0} (p : X → Bool) (xs : List X) → list_any p xs ≡ false → position_or_len p xs ≡ length xs
last p [] e = refl
last p (x ∷ xs) e = goes_last p x xs (p x) e (last p xs)
