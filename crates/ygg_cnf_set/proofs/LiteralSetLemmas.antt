-- Reads and writes of a set, by literal.
use Rattle.std.proofs.Common.{
  ◌≡◌,
  ◌≢◌,
  ℕ,
  ◌<◌,
  ◌≤◌,
  ◌*◌,
  ◌+◌,
  Bool,
  true,
  false,
  cond,
  get_or,
  set,
  take,
  length,
  List,
  [],
  ◌∷◌,
  Contains,
  ◌⊎◌,
  inl,
  inr,
  ⊎_elim,
  refl,
  sym,
  ap,
  subst,
  arith,
  get_or-set_same,
  get_or-set_other,
  ◌∙◌,
  MatchOption,
  Option,
  Some,
  None,
}
use Rattle.std.proofs.lemmas.List.Elements.{
  Contains-push_cases,
  Contains-append_left,
  Contains-push,
  Contains-append_right,
  Contains-append_cases,
  Contains-get_or,
}
use Rattle.std.proofs.lemmas.List.{take_all}
use Rattle.ygg_cnf.specs.declared.lit.Lit.{Lit}
use Rattle.ygg_cnf.specs.Literals.{complement}
use Rattle.ygg_cnf.specs.Derivations.{IsPivot}
use Rattle.ygg_cnf.proofs.Lits.{same_lit, lit_cases, complement_twice}
use Rattle.ygg_cnf_set.proofs.ListLemmas.{contains_more, contains_front}
use Rattle.ygg_cnf_set.specs.LiteralSet.{code_of, Fits, InSet, IsSetOf}

pub same_code : (x y : Lit) → code_of x ≡ code_of y → x ≡ y
same_code x y e =
    elim x.negated as (λ b. x.negated ≡ b → x ≡ y) [
      | true ↦ λ p. elim y.negated as (λ b. y.negated ≡ b → x ≡ y) [
        | true ↦ λ q. same_lit x y (omega (arith, rw (p, q) at e)) (p ∙ sym q)
        | false ↦ λ q. absurd (omega (arith, rw (p, q) at e))
      ] refl
      | false ↦ λ p. elim y.negated as (λ b. y.negated ≡ b → x ≡ y) [
        | true ↦ λ q. absurd (omega (arith, rw (p, q) at e))
        | false ↦ λ q. same_lit x y (omega (arith, rw (p, q) at e)) (p ∙ sym q)
      ] refl
    ] refl

code_below : (room : ℕ) (x : Lit) → Fits room x → code_of x < room
code_below room x h = elim x.negated as (λ b. 2 * x.var + cond b 1 0 < room) [ true ↦ h | false ↦ omega (arith, h) ]

pub is_seen-set_same : (seen : List Bool) (x : Lit) (b : Bool) → Fits (length seen) x
    → get_or (set seen (code_of x) b) (code_of x) false ≡ b
is_seen-set_same seen x b h = get_or-set_same seen (code_of x) b false (code_below (length seen) x h)

pub is_seen-set_other : (seen : List Bool) (x y : Lit) (b : Bool) → y ≢ x
    → get_or (set seen (code_of x) b) (code_of y) false ≡ get_or seen (code_of y) false
is_seen-set_other seen x y b h = get_or-set_other seen (code_of x) (code_of y) b false (λ e. h (same_code y x e))

-- one more literal is in the set
pub insert_more : (before now : List Bool) (xs : List Lit) (i : ℕ) (d : Lit) (after : List Bool) → i < length xs
    → IsSetOf now (λ y. InSet before y ⊎ Contains (take i xs) y)
    → IsSetOf after (λ y. InSet now y ⊎ (y ≡ get_or xs i d))
    → IsSetOf after (λ y. InSet before y ⊎ Contains (take (i + 1) xs) y)
insert_more before now xs i d after l was new y =
    let more = contains_more xs i d l y in (
      (λ m. ⊎_elim (λ n. ⊎_elim (λ b. inl b) (λ c. inr (more.1 (inl c))) ((was y).0 n)) (λ q. inr (more.1 (inr q))) ((new y).0 m)),
      ⊎_elim (λ b. (new y).1 (inl ((was y).1 (inl b))))
          (λ c. ⊎_elim (λ d. (new y).1 (inl ((was y).1 (inr d)))) (λ q. (new y).1 (inr q)) (more.0 c)),
    )

-- one more literal is in the set, unless it is z
pub insert_more_but : (before now : List Bool) (xs : List Lit) (i : ℕ) (d z : Lit) (after : List Bool) → i < length xs
    → IsSetOf now (λ y. InSet before y ⊎ (Contains (take i xs) y × (y ≢ z)))
    → get_or xs i d ≢ z
    → IsSetOf after (λ y. InSet now y ⊎ (y ≡ get_or xs i d))
    → IsSetOf after (λ y. InSet before y ⊎ (Contains (take (i + 1) xs) y × (y ≢ z)))
insert_more_but before now xs i d z after l was differs new y =
    let more = contains_more xs i d l y in (
      (λ m. ⊎_elim (λ n. ⊎_elim (λ b. inl b) (λ c. inr (more.1 (inl c.0), c.1)) ((was y).0 n))
          (λ q. inr (more.1 (inr q), λ e. differs (sym q ∙ e))) ((new y).0 m)),
      ⊎_elim (λ b. (new y).1 (inl ((was y).1 (inl b))))
          (λ c. ⊎_elim (λ d. (new y).1 (inl ((was y).1 (inr (d, c.1))))) (λ q. (new y).1 (inr q)) (more.0 c.0)),
    )

pub keep_more_but : (before now : List Bool) (xs : List Lit) (i : ℕ) (d z : Lit) → i < length xs
    → IsSetOf now (λ y. InSet before y ⊎ (Contains (take i xs) y × (y ≢ z)))
    → get_or xs i d ≡ z
    → IsSetOf now (λ y. InSet before y ⊎ (Contains (take (i + 1) xs) y × (y ≢ z)))
keep_more_but before now xs i d z l was same y =
    let more = contains_more xs i d l y in (
      (λ m. ⊎_elim (λ b. inl b) (λ c. inr (more.1 (inl c.0), c.1)) ((was y).0 m)),
      ⊎_elim (λ b. (was y).1 (inl b))
          (λ c. ⊎_elim (λ d. (was y).1 (inr (d, c.1))) (λ q. absurd (c.1 (q ∙ same))) (more.0 c.0)),
    )

-- no pivot yet, and the next literal is none
pub no_pivot_more : (held : Lit → Type 0) (xs : List Lit) (i : ℕ) (d : Lit) → i < length xs
    → ((x : Lit) → held x → Contains (take i xs) (complement x) → ⊥)
    → (held (complement (get_or xs i d)) → ⊥)
    → (x : Lit) → held x → Contains (take (i + 1) xs) (complement x) → ⊥
no_pivot_more held xs i d l none absent x s c =
    ⊎_elim (none x s) (λ e. absent (subst held (sym (complement_twice x) ∙ ap complement e) s)) ((contains_more xs i d l (complement x)).0 c)

-- no pivot yet, and the next literal gives one
pub first_pivot : (held : Lit → Type 0) (xs : List Lit) (i : ℕ) (d : Lit) → i < length xs
    → ((x : Lit) → held x → Contains (take i xs) (complement x) → ⊥)
    → held (complement (get_or xs i d))
    → IsPivot held (take (i + 1) xs) (complement (get_or xs i d))
first_pivot held xs i d l none here = record {
  here = here;
  there = (contains_more xs i d l (complement (complement (get_or xs i d)))).1 (inr (complement_twice (get_or xs i d)));
  only = λ y s c. ⊎_elim (λ t. absurd (none y s t)) (λ e. sym (complement_twice y) ∙ ap complement e) ((contains_more xs i d l (complement y)).0 c);
}

-- a pivot, and the next literal gives no other
pub same_pivot : (held : Lit → Type 0) (xs : List Lit) (i : ℕ) (d x : Lit) → i < length xs
    → IsPivot held (take i xs) x
    → (held (complement (get_or xs i d)) → complement (get_or xs i d) ≡ x)
    → IsPivot held (take (i + 1) xs) x
same_pivot held xs i d x l was same = record {
  here = was.here;
  there = (contains_more xs i d l (complement x)).1 (inl was.there);
  only = λ y s c. ⊎_elim (was.only y s)
      (λ e. let f : y ≡ complement (get_or xs i d) = sym (complement_twice y) ∙ ap complement e in f ∙ same (subst held f s))
      ((contains_more xs i d l (complement y)).0 c);
}

-- two literals of the set have their complement there
pub two_pivots : (held : Lit → Type 0) (xs : List Lit) (i : ℕ) (d x : Lit) → i < length xs
    → IsPivot held (take i xs) x
    → held (complement (get_or xs i d))
    → complement (get_or xs i d) ≢ x
    → (y : Lit) → IsPivot held xs y → ⊥
two_pivots held xs i d x l was here differs y p =
    differs (p.only (complement (get_or xs i d)) here
    (subst (Contains xs) (sym (complement_twice (get_or xs i d))) (Contains-get_or xs i d l))
    ∙ sym (p.only x was.here (contains_front xs i (complement x) was.there)))

pub keep_pivot : (held : Lit → Type 0) (xs : List Lit) (i : ℕ) (d : Lit) (found : Option Lit) → i < length xs
    → (held (complement (get_or xs i d)) → ⊥)
    → MatchOption found ((x : Lit) → held x → Contains (take i xs) (complement x) → ⊥) (IsPivot held (take i xs))
    → MatchOption found ((x : Lit) → held x → Contains (take (i + 1) xs) (complement x) → ⊥) (IsPivot held (take (i + 1) xs))
keep_pivot held xs i d None l absent was = no_pivot_more held xs i d l was absent
keep_pivot held xs i d (Some x) l absent was = same_pivot held xs i d x l was (λ s. absurd (absent s))

pub pivot_of_all : (held : Lit → Type 0) (xs : List Lit) (i : ℕ) (found : Option Lit) → length xs ≤ i
    → MatchOption found ((x : Lit) → held x → Contains (take i xs) (complement x) → ⊥) (IsPivot held (take i xs))
    → MatchOption found ((x : Lit) → IsPivot held xs x → ⊥) (IsPivot held xs)
pivot_of_all held xs i None l was = λ x p. was x p.here (rw (take_all i xs l) p.there)
pivot_of_all held xs i (Some x) l was = rw (take_all i xs l) at was

-- one more literal is taken out
pub remove_more : (before now : List Bool) (xs : List Lit) (i : ℕ) (d : Lit) (after : List Bool) → i < length xs
    → IsSetOf now (λ y. InSet before y × (Contains (take i xs) y → ⊥))
    → IsSetOf after (λ y. InSet now y × (y ≢ get_or xs i d))
    → IsSetOf after (λ y. InSet before y × (Contains (take (i + 1) xs) y → ⊥))
remove_more before now xs i d after l was new y =
    let more = contains_more xs i d l y in (
      (λ m. let n = (new y).0 m in let b = (was y).0 n.0 in (b.0, λ c. ⊎_elim b.1 n.1 (more.0 c))),
      (λ p. (new y).1 ((was y).1 (p.0, λ c. p.1 (more.1 (inl c))), λ e. p.1 (more.1 (inr e)))),
    )

-- whether none of the literals was in the set, with one more of them
pub none_more : (before now : List Bool) (xs : List Lit) (i : ℕ) (d : Lit) → i < length xs
    → IsSetOf now (λ y. InSet before y × (Contains (take i xs) y → ⊥)) → (InSet now (get_or xs i d) → ⊥)
    → ((y : Lit) → InSet before y → Contains (take i xs) y → ⊥) → (y : Lit) → InSet before y → Contains (take (i + 1) xs) y → ⊥
none_more before now xs i d l was absent none y b c =
    ⊎_elim (none y b) (λ e. absent (subst (InSet now) e ((was y).1 (b, none y b)))) ((contains_more xs i d l y).0 c)

pub none_less : (before : List Bool) (xs : List Lit) (i : ℕ) (d : Lit) → i < length xs
    → ((y : Lit) → InSet before y → Contains (take (i + 1) xs) y → ⊥) → (y : Lit) → InSet before y → Contains (take i xs) y → ⊥
none_less before xs i d l none y b c = none y b ((contains_more xs i d l y).1 (inl c))

pub none_last : (before now : List Bool) (xs : List Lit) (i : ℕ) (d : Lit) → i < length xs
    → IsSetOf now (λ y. InSet before y × (Contains (take i xs) y → ⊥)) → InSet now (get_or xs i d)
    → ((y : Lit) → InSet before y → Contains (take (i + 1) xs) y → ⊥) → ⊥
none_last before now xs i d l was here none =
    none (get_or xs i d) ((was (get_or xs i d)).0 here).0 ((contains_more xs i d l (get_or xs i d)).1 (inr refl))

-- a list has a literal, or has it not
pub contains_cases : (xs : List Lit) (y : Lit) → Contains xs y ⊎ (Contains xs y → ⊥)
contains_cases [] y = inr (λ (k, l, e). absurd (omega (arith, l)))
contains_cases (x ∷ xs) y =
    ⊎_elim (λ e. inl (rw e (Contains-append_left (x ∷ []) xs x (Contains-push [] x))))
    (λ n. ⊎_elim (λ c. inl (Contains-append_right (x ∷ []) xs y c))
    (λ m. inr (λ c. ⊎_elim (λ h. ⊎_elim (λ (k, l, e). absurd (omega (arith, l))) (λ e. n (sym e)) (Contains-push_cases [] x y h)) m
    (Contains-append_cases (x ∷ []) xs y c)))
    (contains_cases xs y))
    (lit_cases y x)
