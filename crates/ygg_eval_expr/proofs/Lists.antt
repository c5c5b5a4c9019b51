-- Lists that are gathered item by item.
use Rattle.std.proofs.Common.{◌≡◌, ℕ, ◌+◌, ◌<◌, ◌≤◌, List, [], ◌∷◌, ◌++◌, length, map, drop, get_or, sym, ap, ◌∙◌, append_assoc}
use Rattle.std.proofs.lemmas.List.{append-nil, drop_more, at_drop_all}

-- one more item that is made of the next one
pub gathered : {X Y : Type 0} (f : X → Y) (done done' : List Y) (y : Y) (xs : List X) (i : ℕ) (x : X) → i < length xs → x ≡ get_or xs i x → y ≡ f x →
    done' ≡ done ++ y ∷ [] → done ++ map f (drop i xs) ≡ map f xs
    → done' ++ map f (drop (i + 1) xs) ≡ map f xs
gathered f done done' y xs i x h e made grown before =
    ap (λ ys. ys ++ map f (drop (i + 1) xs)) (grown ∙ ap (λ z. done ++ z ∷ []) (made ∙ ap f e))
    ∙ append_assoc done (f (get_or xs i x) ∷ []) (map f (drop (i + 1) xs))
    ∙ ap (λ ys. done ++ map f ys) (sym (drop_more xs i x h))
    ∙ before

-- once none is left they are all made
pub all_gathered : {X Y : Type 0} (f : X → Y) (done : List Y) (xs : List X) (i : ℕ) → length xs ≤ i → done ++ map f (drop i xs) ≡ map f xs → done ≡ map f xs
all_gathered f done xs i h made = sym (append-nil done) ∙ sym (at_drop_all (λ ys. done ++ map f ys) xs i h) ∙ made
