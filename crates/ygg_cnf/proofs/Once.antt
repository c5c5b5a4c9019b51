-- Clauses that keep each literal once.
use Rattle.std.proofs.Common.{
  ◌≡◌,
  ◌≢◌,
  ◌<◌,
  ◌+◌,
  ℕ,
  true,
  false,
  if◌then◌else◌,
  ◌⊎◌,
  ◌↔◌,
  List,
  [],
  ◌∷◌,
  ◌++◌,
  length,
  get_or,
  take,
  Contains,
  inl,
  inr,
  ⊎_elim,
  refl,
  sym,
  ap,
  subst,
  ◌∙◌,
  append_assoc,
  length-append,
  arith,
}
use Rattle.std.specs.List.{list_any}
use Rattle.std.proofs.lemmas.Bool.{false≢true}
use Rattle.std.proofs.Math.ListN.{get_or-append}
use Rattle.std.proofs.Math.Seq.{get_or-append_seam}
use Rattle.std.proofs.lemmas.List.{append-nil, take_more}
use Rattle.std.proofs.lemmas.List.Elements.{
  Contains-append_left,
  Contains-append_right,
  Contains-append_cases,
  Contains-get_or,
  Contains-push,
  Contains-push_cases,
}
use Rattle.std.proofs.lemmas.List.Folds.{list_any-from_Any}
use Rattle.std.proofs.lemmas.List.Quantifiers.{all_pairs_push}
use Rattle.std.proofs.lemmas.Map.Views.{Contains-from_any}
use Rattle.ygg_cnf.specs.declared.lit.Lit.{Lit}
use Rattle.ygg_cnf.specs.Literals.{is_same, with_literal, with_literals, once, IsOnce, IsSameSet}

one_if_same : (x y : Lit) → is_same x y ≡ true → x ≡ y
one_if_same x y e = grind arith

same_itself : (x : Lit) → is_same x x ≡ true
same_itself x = grind arith

none : {x : Lit} → Contains [] x → ⊥
none (k, within, is) = omega arith

itself : (x : Lit) → Contains (x ∷ []) x
itself x = Contains-push [] x

single : {x y : Lit} → Contains (x ∷ []) y → y ≡ x
single {x} {y} h = ⊎_elim (λ k. absurd (none k)) sym (Contains-push_cases [] x y h)

first : {x y : Lit} (xs : List Lit) → y ≡ x → Contains (x ∷ xs) y
first {x} {y} xs e = Contains-append_left (x ∷ []) xs y (subst (λ z. Contains (x ∷ []) z) (sym e) (itself x))

later : {x y : Lit} (xs : List Lit) → Contains xs y → Contains (x ∷ xs) y
later {x} {y} xs h = Contains-append_right (x ∷ []) xs y h

split : {x y : Lit} (xs : List Lit) → Contains (x ∷ xs) y → (y ≡ x) ⊎ Contains xs y
split {x} {y} xs h = ⊎_elim (λ k. inl (single k)) inr (Contains-append_cases (x ∷ []) xs y h)

at : (clause : List Lit) (k : ℕ) (d : Lit) → k < length clause → Contains clause (get_or clause k d)
at clause k d within = Contains-get_or clause k d within

found_there : (x : Lit) (clause : List Lit) → Contains clause x → list_any (is_same x) clause ≡ true
found_there x clause (k, within, is) = list_any-from_Any (is_same x) clause (k, x, within, is, same_itself x)

-- what a clause has with one more literal
contains_with : (clause : List Lit) (x y : Lit) → Contains (with_literal clause x) y ↔ (Contains clause y ⊎ (y ≡ x))
contains_with clause x y = elim (list_any (is_same x) clause) as (λ b. list_any (is_same x) clause ≡ b →
    Contains (if b then clause else clause ++ x ∷ []) y ↔ (Contains clause y ⊎ (y ≡ x))) [
      | true ↦ λ e. (inl, ⊎_elim (λ h. h) (λ q. subst (λ z. Contains clause z) (sym q) (Contains-from_any one_if_same x clause e)))
      | false ↦ λ e. (
        λ h. ⊎_elim inl (λ k. inr (single k)) (Contains-append_cases clause (x ∷ []) y h),
        ⊎_elim (Contains-append_left clause (x ∷ []) y)
            (λ q. subst (λ z. Contains (clause ++ x ∷ []) z) (sym q) (Contains-append_right clause (x ∷ []) x (itself x))),
      )
    ] refl

contains_with_all : (xs clause : List Lit) (y : Lit) → Contains (with_literals clause xs) y ↔ (Contains clause y ⊎ Contains xs y)
contains_with_all [] clause y = (inl, ⊎_elim (λ h. h) (λ k. absurd (none k)))
contains_with_all (x ∷ xs) clause y =
    let rest = contains_with_all xs (with_literal clause x) y in
    let one = contains_with clause x y in (
      λ h. ⊎_elim (λ k. ⊎_elim inl (λ q. inr (first xs q)) (one.0 k)) (λ k. inr (later xs k)) (rest.0 h),
      ⊎_elim (λ h. rest.1 (inl (one.1 (inl h)))) (λ h. ⊎_elim (λ q. rest.1 (inl (one.1 (inr q)))) (λ k. rest.1 (inr k)) (split xs h)),
    )

-- keeping each literal once changes no clause as a set
pub once_is_same : (clause : List Lit) → IsSameSet (once clause) clause
once_is_same clause x =
    let both = contains_with_all clause [] x in
    (λ h. ⊎_elim (λ k. absurd (none k)) (λ k. k) (both.0 h), λ h. both.1 (inr h))

-- no literal stands twice in the clause with one more
once_with : (clause : List Lit) (x : Lit) → IsOnce clause → IsOnce (with_literal clause x)
once_with clause x h = elim (list_any (is_same x) clause) as (λ b. list_any (is_same x) clause ≡ b → IsOnce (if b then clause else clause ++ x ∷ [])) [
  | true ↦ λ e. h
  | false ↦ λ e. all_pairs_push (λ a b. a ≢ b) clause x h
      (λ k d within is. false≢true (sym e ∙ found_there x clause (subst (λ z. Contains clause z) is (at clause k d within))))
] refl

once_with_all : (xs clause : List Lit) → IsOnce clause → IsOnce (with_literals clause xs)
once_with_all [] clause h = h
once_with_all (x ∷ xs) clause h = once_with_all xs (with_literal clause x) (once_with clause x h)

pub once_has_none_twice : (clause : List Lit) → IsOnce (once clause)
once_has_none_twice clause = once_with_all clause [] (λ i j d o w. absurd (omega (arith, w)))

not_there : (clause xs : List Lit) (x : Lit) → IsOnce (clause ++ x ∷ xs) → Contains clause x → ⊥
not_there clause xs x h (k, within, is) =
    h k (length clause) x within (rw (length-append clause (x ∷ xs)) (omega arith))
    (get_or-append clause (x ∷ xs) x k within ∙ is ∙ sym (get_or-append_seam clause x xs x))

-- a clause that has no literal twice stays as it is
kept_with_all : (xs clause : List Lit) → IsOnce (clause ++ xs) → with_literals clause xs ≡ clause ++ xs
kept_with_all [] clause h = sym (append-nil clause)
kept_with_all (x ∷ xs) clause h =
    let new : list_any (is_same x) clause ≡ false =
    elim (list_any (is_same x) clause) as (λ b. list_any (is_same x) clause ≡ b → b ≡ false)
    [ true ↦ λ e. absurd (not_there clause xs x h (Contains-from_any one_if_same x clause e)) | false ↦ λ e. refl ] refl in
    ap (λ b. with_literals (if b then clause else clause ++ x ∷ []) xs) new
    ∙ kept_with_all xs (clause ++ x ∷ []) (subst IsOnce (sym (append_assoc clause (x ∷ []) xs)) h) ∙ append_assoc clause (x ∷ []) xs

pub once_is_kept : (clause : List Lit) → IsOnce clause → once clause ≡ clause
once_is_kept clause h = kept_with_all clause [] h

with_one : (clause xs : List Lit) (x : Lit) → with_literals clause (xs ++ x ∷ []) ≡ with_literal (with_literals clause xs) x
with_one clause [] x = refl
with_one clause (y ∷ xs) x = with_one (with_literal clause y) xs x

added : (clause : List Lit) (x : Lit) → list_any (is_same x) clause ≡ false → with_literal clause x ≡ clause ++ x ∷ []
added clause x e = rw e refl

-- with one more literal that isn't among those before it, each still stands once
pub once_more : (lits : List Lit) (i : ℕ) (d : Lit) → i < length lits → once (take i lits) ≡ take i lits
    → list_any (is_same (get_or lits i d)) (take i lits) ≡ false → once (take (i + 1) lits) ≡ take (i + 1) lits
once_more lits i d l e f =
    let x = get_or lits i d in
    let more : take (i + 1) lits ≡ take i lits ++ x ∷ [] = take_more lits i d l in
    ap once more ∙ with_one [] (take i lits) x ∙ ap (λ z. with_literal z x) e ∙ added (take i lits) x f ∙ sym more
