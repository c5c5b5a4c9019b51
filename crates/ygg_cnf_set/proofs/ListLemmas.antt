-- What the first items of a list contain.
use Rattle.std.proofs.Common.{◌≡◌, ◌<◌, ◌≤◌, ◌+◌, ◌⊎◌, ◌↔◌, ℕ, List, [], ◌∷◌, ◌++◌, length, take, drop, get_or, Contains, inl, inr, ⊎_elim, sym, subst, arith}
use Rattle.std.proofs.lemmas.List.{take_more, take_all}
use Rattle.std.proofs.lemmas.List.Elements.{Contains-push_cases, Contains-append_left, Contains-push}
use Rattle.std.proofs.lemmas.Grind.{common_steps}

-- a list with one more item
pub contains_more : {X : Type 0} (xs : List X) (i : ℕ) (d : X) → i < length xs → (y : X)
    → Contains (take (i + 1) xs) y ↔ (Contains (take i xs) y ⊎ (y ≡ get_or xs i d))
contains_more {X} xs i d h y =
    let x : X = get_or xs i d in
    rw (take_more xs i d h) (
      (λ c. ⊎_elim (λ a. inl a) (λ e. inr (sym e)) (Contains-push_cases (take i xs) x y c)),
      ⊎_elim (Contains-append_left (take i xs) (x ∷ []) y) (λ e. subst (λ z. Contains (take i xs ++ x ∷ []) z) (sym e) (Contains-push (take i xs) x)),
    )

pub contains_all : {X : Type 0} (xs : List X) (i : ℕ) → length xs ≤ i → (y : X) → Contains (take i xs) y ↔ Contains xs y
contains_all xs i h y = rw (take_all i xs h) ((λ c. c), (λ c. c))

pub contains_front : {X : Type 0} (xs : List X) (i : ℕ) (y : X) → Contains (take i xs) y → Contains xs y
contains_front xs i y c =
    let e : take i xs ++ drop i xs ≡ xs = grind (arith, common_steps) in
    subst (λ l. Contains l y) e (Contains-append_left (take i xs) (drop i xs) y c)
