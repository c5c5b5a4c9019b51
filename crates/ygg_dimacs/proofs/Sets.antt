-- A clause and the marks of its literals.
use Rattle.std.proofs.Common.{◌≡◌, ℕ, ◌≤◌, Bool, true, false, ◌⊎◌, ◌↔◌, inl, inr, ⊎_elim, List}
use Rattle.std.proofs.Common.{[], ◌∷◌, ◌++◌, length, take, drop, Contains, All, refl, sym, subst, arith}
use Rattle.std.specs.Prelude.{IsTrue}
use Rattle.std.specs.List.{list_any}
use Rattle.std.proofs.lemmas.List.{append-nil, drop_all, take_all}
use Rattle.std.proofs.lemmas.List.Folds.{list_any-from_Any}
use Rattle.std.proofs.lemmas.List.Elements.{Contains-push, Contains-push_cases, Contains-append_left, All-weaker, All-push, All-nil}
use Rattle.std.proofs.lemmas.Map.Views.{Contains-from_any}
use Rattle.ygg_cnf.specs.declared.lit.Lit.{Lit}
use Rattle.ygg_cnf.specs.Literals.{is_same, with_literal}
use Rattle.ygg_cnf_set.specs.LiteralSet.{InSet, IsSetOf, Fits}
use Rattle.ygg_dimacs.specs.Marks.{IsMarked}

one_if_same : (x y : Lit) → is_same x y ≡ true → x ≡ y
one_if_same x y e = grind arith

same_itself : (x : Lit) → is_same x x ≡ true
same_itself x = grind arith

-- a literal that is there
found_there : (x : Lit) (clause : List Lit) → Contains clause x → list_any (is_same x) clause ≡ true
found_there x clause (k, within, is) = list_any-from_Any (is_same x) clause (k, x, within, is, same_itself x)

pub with_there : (clause : List Lit) (x : Lit) → Contains clause x → clause ≡ with_literal clause x
with_there clause x here = rw (found_there x clause here) refl

-- one that isn't
missing : (x : Lit) (clause : List Lit) → (Contains clause x → ⊥) → (b : Bool) → list_any (is_same x) clause ≡ b → b ≡ false
missing x clause absent true e = absurd (absent (Contains-from_any one_if_same x clause e))
missing x clause absent false e = refl

pub with_new : (clause : List Lit) (x : Lit) → (Contains clause x → ⊥) → clause ++ x ∷ [] ≡ with_literal clause x
with_new clause x absent = rw (missing x clause absent (list_any (is_same x) clause) refl) refl

none : {x : Lit} → Contains [] x → ⊥
none (k, within, is) = omega arith

-- room for each
wider : (clause : List Lit) (few many : ℕ) → few ≤ many → All (Fits few) clause → All (Fits many) clause
wider clause few many more all = All-weaker (Fits few) (Fits many) (λ x fits. omega (arith, fits)) clause all

-- more room, and the same marks
pub marked_wider : (before now : List Bool) (clause : List Lit) → IsMarked before clause → length before ≤ length now → IsSetOf now (InSet before) →
    IsMarked now clause
marked_wider before now clause m longer same = record {
  are = λ y. ((λ h. (m.are y).0 ((same y).0 h)), λ h. (same y).1 ((m.are y).1 h));
  fit = wider clause (length before) (length now) longer m.fit;
}

-- one literal more
pub marked_more : (before now : List Bool) (clause : List Lit) (x : Lit) → IsMarked before clause → length now ≡ length before → Fits (length before) x →
    IsSetOf now (λ y. InSet before y ⊎ (y ≡ x)) → IsMarked now (clause ++ x ∷ [])
marked_more before now clause x m same fits one = record {
  are = λ y. (
    λ h. ⊎_elim (λ k. Contains-append_left clause (x ∷ []) y ((m.are y).0 k))
        (λ e. subst (λ z. Contains (clause ++ x ∷ []) z) (sym e) (Contains-push clause x)) ((one y).0 h),
    λ h. (one y).1 (⊎_elim (λ k. inl ((m.are y).1 k)) (λ e. inr (sym e)) (Contains-push_cases clause x y h)),
  );
  fit = All-push (Fits (length now)) clause x (wider clause (length before) (length now) (omega arith) m.fit) (omega (arith, fits));
}

-- none left
pub marked_none : (before now : List Bool) (clause : List Lit) → IsMarked before clause → IsSetOf now (λ y. InSet before y × (Contains clause y → ⊥)) →
    IsMarked now []
marked_none before now clause m rest = record {
  are = λ y. ((λ h. absurd (((rest y).0 h).1 ((m.are y).0 ((rest y).0 h).0))), λ h. absurd (none h));
  fit = All-nil (Fits (length now));
}

-- what a test of the marks says
pub absent_by : (clause : List Lit) (marks slice : List Bool) (x : Lit) (b : Bool) → IsMarked marks clause → slice ≡ marks → (IsTrue b ↔ InSet slice x) →
    b ≡ false → Contains clause x → ⊥
absent_by clause marks slice x b m same test fails here =
    let on : InSet slice x = subst (λ (s : List Bool). InSet s x) (sym same) ((m.are x).1 here) in
    let yes : b ≡ true = test.1 on in
    absurd (cc (yes, fails))

-- a vector whose slice was written
pub written : (len : ℕ) (now old : List Bool) → length now ≡ len → length old ≡ len → take len (now ++ drop (length now) old) ≡ now
written len now old a b =
    let none : drop (length now) old ≡ [] = drop_all (length now) old (omega arith) in
    rw none (rw (append-nil now) (take_all len now (omega arith)))

-- no marks yet
pub marked_start : IsMarked [] []
marked_start = record { are = λ y. ((λ h. absurd (cc h)), λ h. absurd (none h)); fit = All-nil (Fits 0) }
