-- A list that is made item by item: what was found and what is left give the whole.
use Rattle.std.proofs.Common.{◌≡◌, ℕ, ◌+◌, ◌<◌, ◌≤◌, List, [], ◌∷◌, ◌++◌, length, get_or, map, drop, sym, ap, ◌∙◌, append_assoc}
use Rattle.std.proofs.lemmas.List.{append-nil, at_drop_more, at_drop_all}

module _ {A B : Type 0} (f : A → B) (all : List A) (i : ℕ) (found : List B) (so_far : found ++ map f (drop i all) ≡ map f all) where
  -- past one more item they still do
  pub found_more : (x : A) (next : List B) → i < length all → x ≡ get_or all i x → next ≡ found ++ f x ∷ []
      → next ++ map f (drop (i + 1) all) ≡ map f all
  found_more x next l is more =
      ap (λ bs. bs ++ map f (drop (i + 1) all)) more
      ∙ append_assoc found (f x ∷ []) (map f (drop (i + 1) all))
      ∙ ap (λ y. found ++ f y ∷ map f (drop (i + 1) all)) is
      ∙ sym (at_drop_more (λ xs. found ++ map f xs) all i x l)
      ∙ so_far

  -- in the end nothing is left
  pub found_all : length all ≤ i → found ≡ map f all
  found_all l = sym (append-nil found) ∙ sym (at_drop_all (λ xs. found ++ map f xs) all i l) ∙ so_far
