-- What holds of the first items of a list, one after another.
use Rattle.std.proofs.Common.{ℕ, ◌+◌, ◌<◌, ◌≤◌, List, length, take, get_or, sym, subst}
use Rattle.std.specs.Prelude.{All}
use Rattle.std.proofs.lemmas.List.{take_more, take_all}
use Rattle.std.proofs.lemmas.List.Elements.{All-push}

-- one item more
pub all_more : {A : Type 0} (P : A → Type 0) (xs : List A) (i : ℕ) (d : A) → i < length xs → All P (take i xs) → P (get_or xs i d) → All P (take (i + 1) xs)
all_more {A} P xs i d within before here =
    subst (λ (ys : List A). All P ys) (sym (take_more xs i d within)) (All-push P (take i xs) (get_or xs i d) before here)

-- all items
pub all_whole : {A : Type 0} (P : A → Type 0) (xs : List A) (i : ℕ) → length xs ≤ i → All P (take i xs) → All P xs
all_whole {A} P xs i past before = subst (λ (ys : List A). All P ys) (take_all i xs past) before
