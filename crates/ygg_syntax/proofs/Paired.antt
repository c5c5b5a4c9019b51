-- Two lists that are compared item by item: what is left of them decides.
use Rattle.std.proofs.Common.{◌≡◌, ◌↔◌, ℕ, ◌+◌, ◌<◌, ◌≤◌, Bool, true, false, nat_eq, List, [], ◌∷◌, length, get_or, map, drop, sym, ap, ◌∙◌, arith}
use Rattle.std.proofs.lemmas.Bool.{false≢true, eqb-true}
use Rattle.std.proofs.lemmas.List.{drop_more, drop_all}

module _ {A B : Type 0} (f : A → B) (a : List A) (i : ℕ) (rest : List A) {W : Type 0} (h : (map f (drop i a) ≡ map f rest) ↔ W) where
  -- what is left of the first list begins with its item
  begins : (x : A) → i < length a → x ≡ get_or a i x → map f (drop i a) ≡ f x ∷ map f (drop (i + 1) a)
  begins x l is = ap (map f) (drop_more a i x l) ∙ ap (λ z. f z ∷ map f (drop (i + 1) a)) (sym is)

  -- past items that are the same, what is left then decides
  pub next : (x y : A) (ys : List A) → i < length a → x ≡ get_or a i x → rest ≡ y ∷ ys → f x ≡ f y → (map f (drop (i + 1) a) ≡ map f ys) ↔ W
  next x y ys l is e same =
      let left = begins x l is in
      let right : map f rest ≡ f y ∷ map f ys = ap (map f) e in
      (λ all. h.0 (cc), λ w. let whole = h.1 w in cc)

  -- items that differ decide
  pub differ : (x y : A) (ys : List A) (r : Bool) → i < length a → x ≡ get_or a i x → rest ≡ y ∷ ys → r ≡ false → ((r ≡ true) ↔ (f x ≡ f y))
      → (false ≡ true) ↔ W
  differ x y ys r l is e apart same =
      let left = begins x l is in
      let right : map f rest ≡ f y ∷ map f ys = ap (map f) e in
      (λ yes. absurd (false≢true yes), λ w. let whole = h.1 w in let equal : f x ≡ f y = cc in sym apart ∙ same.1 equal)

  -- a second list that ends first decides
  pub shorter : (x : A) → i < length a → x ≡ get_or a i x → length rest ≡ 0 → (false ≡ true) ↔ W
  shorter x l is e = by rest h e where
    by : (zs : List A) → ((map f (drop i a) ≡ map f zs) ↔ W) → length zs ≡ 0 → (false ≡ true) ↔ W
    by [] g e = let left = begins x l is in (λ yes. absurd (false≢true yes), λ w. let whole = g.1 w in cc)
    by (z ∷ zs) g e = absurd (omega (arith, e))

  -- at the end of the first list, the second is to be at its end
  pub ends : (r : Bool) → r ≡ nat_eq (length rest) 0 → length a ≤ i → (r ≡ true) ↔ W
  ends r e l = by rest h e where
    past : map f (drop i a) ≡ []
    past = ap (map f) (drop_all i a l)

    by : (zs : List A) → ((map f (drop i a) ≡ map f zs) ↔ W) → r ≡ nat_eq (length zs) 0 → (r ≡ true) ↔ W
    by [] g e = (λ yes. g.0 past, λ w. e)
    by (z ∷ zs) g e = (λ yes. absurd (omega (arith, eqb-true (length (z ∷ zs)) 0 (sym e ∙ yes))), λ w. let whole = g.1 w in let none = past in cc)
