-- The trail: no literal is false together with its complement, and a reason gives a pivot.
use Rattle.std.proofs.Common.{
  ◌≡◌,
  ℕ,
  zero,
  suc,
  ◌<◌,
  true,
  false,
  not,
  List,
  [],
  ◌∷◌,
  ◌++◌,
  length,
  Contains,
  ◌⊎◌,
  inl,
  inr,
  ⊎_elim,
  sym,
  subst,
  ap,
  ◌∙◌,
  arith,
  refl,
  eqb,
}
use Rattle.std.proofs.lemmas.Bool.{cases_Bool, eq-eqb, eqb-true}
use Rattle.std.proofs.lemmas.List.Elements.{Contains-push, Contains-push_cases, Contains-append_left, Contains-append_right, Contains-append_cases}
use Rattle.std.proofs.lemmas.Option.{same_Some}
use Rattle.ygg_cnf.proofs.Lits.{same_lit}
use Rattle.ygg_cnf.specs.Literals.{complement}
use Rattle.ygg_cnf.specs.declared.lit.Lit.{Lit}
use Rattle.ygg_watch.specs.Trail.{IsAt, IsFalseBefore, assigned_before, IsAssigned}
use Rattle.ygg_watch.proofs.CountLemmas.{is_assigned}
use Rattle.ygg_watch.specs.declared.entry.Entry.{Entry}

pub one_entry : (trail : List Entry) (q : ℕ) (d e : Entry) → IsAt trail q d → IsAt trail q e → d ≡ e
one_entry trail q d e h k = same_Some d e (sym h ∙ k)

pub entry_within : (trail : List Entry) (q : ℕ) (e : Entry) → IsAt trail q e → q < length trail
entry_within [] q e h = cc
entry_within (d ∷ trail) zero e h = omega arith
entry_within (d ∷ trail) (suc q) e h = let r = entry_within trail q e h in omega arith

pub at_push : (xs : List Entry) (e d : Entry) (q : ℕ) → IsAt (xs ++ e ∷ []) q d → IsAt xs q d ⊎ ((q ≡ length xs) × (e ≡ d))
at_push [] e d zero h = inr (refl, same_Some e d h)
at_push [] e d (suc q) h = cc
at_push (x ∷ xs) e d zero h = inl h
at_push (x ∷ xs) e d (suc q) h = ⊎_elim (λ a. inl a) (λ p. inr (omega (arith, p.0), p.1)) (at_push xs e d q h)

pub at_front : (xs ys : List Entry) (d : Entry) (q : ℕ) → IsAt xs q d → IsAt (xs ++ ys) q d
at_front [] ys d q h = cc
at_front (x ∷ xs) ys d zero h = h
at_front (x ∷ xs) ys d (suc q) h = at_front xs ys d q h

pub fresh_place : (trail : List Entry) (q : ℕ) (d : Entry) (v : ℕ) → IsAt trail q d → d.lit.var ≡ v → IsAssigned trail v
fresh_place [] q d v h e = cc
fresh_place (x ∷ xs) zero d v h e = (0, x, omega arith, refl, ap (λ (z : Entry). z.lit.var) (same_Some x d h) ∙ e)
fresh_place (x ∷ xs) (suc q) d v h e = let (k, z, l, f, p) = fresh_place xs q d v h e in (suc k, z, omega arith, f, p)

pub at_in : (xs ys : List Entry) (q : ℕ) (e : Entry) → IsAt (xs ++ ys) q e → q < length xs → IsAt xs q e
at_in [] ys q e h l = absurd (omega arith)
at_in (x ∷ xs) ys zero e h l = h
at_in (x ∷ xs) ys (suc q) e h l = at_in xs ys q e h (omega arith)

pub not_assigned : (trail : List Entry) (v : ℕ) → (IsAssigned trail v → ⊥) → is_assigned trail v ≡ false
not_assigned [] v n = refl
not_assigned (d ∷ trail) v n =
    ⊎_elim (λ t. absurd (n (0, d, omega arith, refl, eqb-true d.lit.var v t)))
    (λ u. rw u (not_assigned trail v (λ (k, x, l, e, p). n (suc k, x, omega arith, e, p)))) (cases_Bool (eqb d.lit.var v))

contains_first : (x : Lit) (xs : List Lit) → Contains (x ∷ xs) x
contains_first x xs = Contains-append_left (x ∷ []) xs x (Contains-push [] x)

contains_rest : (x : Lit) (xs : List Lit) (y : Lit) → Contains xs y → Contains (x ∷ xs) y
contains_rest x xs y c = Contains-append_right (x ∷ []) xs y c

pub contains_none : (y : Lit) → Contains [] y → ⊥
contains_none y (k, l, e) = omega arith

contains_cons : (x : Lit) (xs : List Lit) (y : Lit) → Contains (x ∷ xs) y → (x ≡ y) ⊎ Contains xs y
contains_cons x xs y c =
    ⊎_elim (λ h. ⊎_elim (λ n. absurd (contains_none y n)) (λ e. inl e) (Contains-push_cases [] x y h)) (λ r. inr r)
    (Contains-append_cases (x ∷ []) xs y c)

-- an assigned literal
pub assigned_has : (trail : List Entry) (q n : ℕ) (e : Entry) → q < n → IsAt trail q e → Contains (assigned_before trail n) e.lit
assigned_has [] q n e l h = cc
assigned_has (d ∷ trail) q zero e l h = absurd (omega arith)
assigned_has (d ∷ trail) zero (suc n) e l h =
    subst (λ (x : Entry). Contains (assigned_before (d ∷ trail) (suc n)) x.lit) (same_Some d e h) (contains_first d.lit (assigned_before trail n))
assigned_has (d ∷ trail) (suc q) (suc n) e l h = contains_rest d.lit (assigned_before trail n) e.lit (assigned_has trail q n e (omega arith) h)

pub assigned_at : (trail : List Entry) (n : ℕ) (x : Lit) → Contains (assigned_before trail n) x
    → (q : ℕ) × ((e : Entry) × ((q < n) × (IsAt trail q e × (e.lit ≡ x))))
assigned_at [] zero x c = absurd (contains_none x c)
assigned_at [] (suc n) x c = absurd (contains_none x c)
assigned_at (d ∷ trail) zero x c = absurd (contains_none x c)
assigned_at (d ∷ trail) (suc n) x c =
    ⊎_elim (λ e. (0, (d, (omega arith, (refl, e)))))
    (λ r. let (q, (e, (l, (h, s)))) = assigned_at trail n x r in (suc q, (e, (omega arith, (h, s)))))
    (contains_cons d.lit (assigned_before trail n) x c)

pub false_before : (trail : List Entry) (n : ℕ) (y : Lit) → Contains (assigned_before trail n) (complement y) → IsFalseBefore trail n y
false_before trail n y c = assigned_at trail n (complement y) c

pub in_before : (trail : List Entry) (n : ℕ) (y : Lit) → IsFalseBefore trail n y → Contains (assigned_before trail n) (complement y)
in_before trail n y (q, (e, (l, (h, s)))) = subst (Contains (assigned_before trail n)) s (assigned_has trail q n e l h)

pub assigned_of : (trail : List Entry) (q : ℕ) (e : Entry) → IsAt trail q e → is_assigned trail e.lit.var ≡ true
assigned_of [] q e h = cc
assigned_of (d ∷ trail) zero e h = rw (eq-eqb d.lit.var e.lit.var (ap (λ (z : Entry). z.lit.var) (same_Some d e h))) refl
assigned_of (d ∷ trail) (suc q) e h =
    ⊎_elim (λ t. rw t refl) (λ u. rw u (assigned_of trail q e h)) (cases_Bool (eqb d.lit.var e.lit.var))

pub same_or_complement : (x y : Lit) → x.var ≡ y.var → (x ≡ y) ⊎ (x ≡ complement y)
same_or_complement x y e =
    elim x.negated as (λ b. x.negated ≡ b → (x ≡ y) ⊎ (x ≡ complement y)) [
      | true ↦ λ p. elim y.negated as (λ c. y.negated ≡ c → (x ≡ y) ⊎ (x ≡ complement y)) [
        | true ↦ λ q. inl (same_lit x y e (p ∙ sym q))
        | false ↦ λ q. inr (same_lit x (complement y) e (p ∙ sym (ap not q)))
      ] refl
      | false ↦ λ p. elim y.negated as (λ c. y.negated ≡ c → (x ≡ y) ⊎ (x ≡ complement y)) [
        | true ↦ λ q. inr (same_lit x (complement y) e (p ∙ sym (ap not q)))
        | false ↦ λ q. inl (same_lit x y e (p ∙ sym q))
      ] refl
    ] refl
