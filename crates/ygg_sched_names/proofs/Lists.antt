-- Facts of each element of a list.
use Rattle.std.proofs.Common.{◌≡◌, ℕ, zero, suc, List, [], ◌∷◌, ◌++◌, map, slice_get, Some, subst}
use Rattle.std.specs.List.{AllByRecursion, flat_map}

module _ {X : Type 0} (P : X → Type 0) where
  pub each_append : (xs ys : List X) → AllByRecursion P xs → AllByRecursion P ys → AllByRecursion P (xs ++ ys)
  each_append [] ys h g = g
  each_append (x ∷ xs) ys h g = (h.0, each_append xs ys h.1 g)

  pub each_at : (xs : List X) → AllByRecursion P xs → (i : ℕ) (x : X) → slice_get xs i ≡ Some x → P x
  each_at [] h i x e = absurd (cc)
  each_at (y ∷ ys) h zero x e = let same : y ≡ x = cc in subst P same h.0
  each_at (y ∷ ys) h (suc i) x e = each_at ys h.1 i x e

  pub each_map : {Y : Type 0} (f : Y → X) (ys : List Y) → AllByRecursion (λ y. P (f y)) ys → AllByRecursion P (map f ys)
  each_map f [] h = tt
  each_map f (y ∷ ys) h = (h.0, each_map f ys h.1)

  pub each_weaker : (Q : X → Type 0) → ((x : X) → P x → Q x) → (xs : List X) → AllByRecursion P xs → AllByRecursion Q xs
  each_weaker Q f [] h = tt
  each_weaker Q f (x ∷ xs) h = (f x h.0, each_weaker Q f xs h.1)

  -- of two for each of others
  pub each_two : {Y : Type 0} (f g : Y → X) (ys : List Y) → AllByRecursion (λ y. P (f y) × P (g y)) ys →
      AllByRecursion P (flat_map (λ y. f y ∷ g y ∷ []) ys)
  each_two f g [] h = tt
  each_two f g (y ∷ ys) h = (h.0.0, (h.0.1, each_two f g ys h.1))
