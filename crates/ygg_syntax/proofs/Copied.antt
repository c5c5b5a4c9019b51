-- Copies put together from copies of parts, and lists of copies.
use Rattle.std.proofs.Common.{◌≡◌, ℕ, ◌+◌, ◌<◌, ◌≤◌, List, [], ◌∷◌, ◌++◌, length, get_or, drop, Result, Ok, sym, ap, subst, ◌∙◌, append_assoc}
use Rattle.std.specs.Prelude.{IfOk}
use Rattle.std.proofs.lemmas.List.{append-nil, drop_more, drop_all}

-- a part that was copied
pub copied : {A E : Type 0} {r : Result A E} {x y : A} → IfOk r (λ copy. copy ≡ y) → r ≡ Ok x → x ≡ y
copied {y = y} if e = subst (λ r. IfOk r (λ copy. copy ≡ y)) e if

-- the same put together from the same
pub of_one : {A C : Type 0} (build : A → C) {x p : A} {whole : C} → x ≡ p → whole ≡ build p → build x ≡ whole
of_one build e is = ap build e ∙ sym is

pub of_two : {A B C : Type 0} (build : A → B → C) {x p : A} {y q : B} {whole : C} → x ≡ p → y ≡ q → whole ≡ build p q → build x y ≡ whole
of_two build {p = p} {y = y} e f is = ap (λ z. build z y) e ∙ ap (build p) f ∙ sym is

module _ {A : Type 0} (xs : List A) (i : ℕ) where
  -- one copy more
  pub one_copied : (x one : A) (copies : List A) {more all : List A} → i < length xs → x ≡ get_or xs i x → one ≡ x → more ≡ copies ++ one ∷ []
      → copies ++ drop i xs ≡ all → more ++ drop (i + 1) xs ≡ all
  one_copied x one copies within is same grown so_far =
      let split : drop i xs ≡ one ∷ drop (i + 1) xs =
      drop_more xs i x within ∙ ap (λ (z : A). z ∷ drop (i + 1) xs) (sym is ∙ sym same) in
      ap (λ (ys : List A). ys ++ drop (i + 1) xs) grown ∙ append_assoc copies (one ∷ []) (drop (i + 1) xs)
      ∙ ap (λ (ys : List A). copies ++ ys) (sym split) ∙ so_far

  -- all are copied
  pub all_copied : (copies : List A) {all : List A} → length xs ≤ i → copies ++ drop i xs ≡ all → copies ≡ all
  all_copied copies past so_far = sym (append-nil copies) ∙ ap (λ (ys : List A). copies ++ ys) (sym (drop_all i xs past)) ∙ so_far
