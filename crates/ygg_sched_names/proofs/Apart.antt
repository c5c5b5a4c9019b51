-- Lists no two elements of which are equal.
use Rattle.std.proofs.Common.{◌≡◌, ℕ, zero, suc, Bool, true, false, List, [], ◌∷◌, ◌++◌, map, slice_get, Some, refl, sym, ap, ◌∙◌}
use Rattle.std.specs.Prelude.{◌≢◌}
use Rattle.std.specs.List.{find, AllByRecursion}
use Rattle.std.specs.Option.{option_map}
use Rattle.std.specs.Str.{bytes_eq}
use Rattle.std.proofs.lemmas.Option.{slice_get-map}
use Rattle.std.proofs.lemmas.Slice.Eq.{bytes_eq-Decides}

-- it is none of them
abbrev pub Differs : {X : Type 0} → X → List X → Type 0
Differs x [] = Unit {0}
Differs x (y ∷ ys) = (x ≢ y) × Differs x ys

-- none of them is another
abbrev pub Apart : {X : Type 0} → List X → Type 0
Apart [] = Unit {0}
Apart (x ∷ xs) = Differs x xs × Apart xs

differs_at : {X : Type 0} (x : X) (xs : List X) → Differs x xs → (i : ℕ) → slice_get xs i ≡ Some x → ⊥
differs_at x [] d i h = absurd (cc)
differs_at x (y ∷ ys) d zero h = let same : x ≡ y = cc in d.0 same
differs_at x (y ∷ ys) d (suc i) h = differs_at x ys d.1 i h

-- an element stands at one place
pub one_place : {X : Type 0} (xs : List X) → Apart xs → (i j : ℕ) (x : X) → slice_get xs i ≡ Some x → slice_get xs j ≡ Some x → i ≡ j
one_place [] a i j x h g = absurd (cc)
one_place (y ∷ ys) a zero zero x h g = refl
one_place (y ∷ ys) a zero (suc j) x h g = let same : x ≡ y = cc in absurd (differs_at y ys a.0 j (g ∙ ap (λ z. Some z) same))
one_place (y ∷ ys) a (suc i) zero x h g = let same : x ≡ y = cc in absurd (differs_at y ys a.0 i (h ∙ ap (λ z. Some z) same))
one_place (y ∷ ys) a (suc i) (suc j) x h g = ap suc (one_place ys a.1 i j x h g)

pub differs_append : {X : Type 0} (x : X) (xs ys : List X) → Differs x xs → Differs x ys → Differs x (xs ++ ys)
differs_append x [] ys d e = e
differs_append x (z ∷ zs) ys d e = (d.0, differs_append x zs ys d.1 e)

pub apart_append : {X : Type 0} (xs ys : List X) → Apart xs → Apart ys → AllByRecursion (λ x. Differs x ys) xs → Apart (xs ++ ys)
apart_append [] ys a b d = b
apart_append (x ∷ xs) ys a b d = (differs_append x xs ys a.0 d.0, apart_append xs ys a.1 b d.1)

-- what differs when it is seen so differs
differs_seen : {X Y : Type 0} (see : X → Y) (x : X) (xs : List X) → Differs (see x) (map see xs) → Differs x xs
differs_seen see x [] d = tt
differs_seen see x (y ∷ ys) d = (λ same. d.0 (ap see same), differs_seen see x ys d.1)

pub apart_seen : {X Y : Type 0} (see : X → Y) (xs : List X) → Apart (map see xs) → Apart xs
apart_seen see [] a = tt
apart_seen see (x ∷ xs) a = (differs_seen see x xs a.0, apart_seen see xs a.1)

-- what is found by the name of an element is that element, where no two have one name
pub first_named : {X : Type 0} (name : X → List ℕ) (xs : List X) → Apart (map name xs) → (i : ℕ) (x : X) → slice_get xs i ≡ Some x →
    find (λ y. bytes_eq (name y) (name x)) xs ≡ Some x
first_named name [] a i x h = absurd (cc)
first_named name (y ∷ ys) a zero x h =
    let same : y ≡ x = cc in
    rw ((bytes_eq-Decides (name y) (name x)).1 (ap name same)) (ap (λ z. Some z) same)
first_named name (y ∷ ys) a (suc i) x h = by_test (bytes_eq (name y) (name x)) refl (first_named name ys a.1 i x h)
  where
    by_test : (test : Bool) → bytes_eq (name y) (name x) ≡ test → find (λ z. bytes_eq (name z) (name x)) ys ≡ Some x →
        find (λ z. bytes_eq (name z) (name x)) (y ∷ ys) ≡ Some x
    by_test true e later =
        let same = (bytes_eq-Decides (name y) (name x)).0 e in
        absurd (differs_at (name y) (map name ys) a.0 i (slice_get-map name ys i ∙ ap (option_map name) h ∙ ap (λ z. Some z) (sym same)))
    by_test false e later = rw e later
