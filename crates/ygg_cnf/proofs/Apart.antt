-- Clauses that patterns make of literals of different variables.
use Rattle.std.proofs.Common.{
  ◌≡◌,
  ◌≢◌,
  ◌<◌,
  ◌+◌,
  ◌==◌,
  ℕ,
  Bool,
  true,
  false,
  inl,
  inr,
  ◌≤◌,
  Option,
  Some,
  None,
  List,
  [],
  ◌∷◌,
  length,
  get_or,
  take,
  map,
  All,
  refl,
  sym,
  subst,
  ◌∙◌,
  arith,
}
use Rattle.std.specs.List.{list_any}
use Rattle.std.proofs.lemmas.Bool.{false≢true, cases_lt}
use Rattle.std.proofs.lemmas.List.{take_all, take_more}
use Rattle.std.proofs.lemmas.List.Elements.{All-head, All-tail, Contains-get_or}
use Rattle.std.proofs.lemmas.List.Folds.{list_any-from_Any}
use Rattle.std.proofs.lemmas.List.Quantifiers.{all_pairs_push}
use Rattle.ygg_cnf.specs.declared.lit.Lit.{Lit}
use Rattle.ygg_cnf.specs.declared.pattern.Pattern.{Pattern}
use Rattle.ygg_cnf.specs.declared.pattern.PatternLit.{PatternLit}
use Rattle.ygg_cnf.specs.Literals.{is_same, once, AreApart}
use Rattle.ygg_cnf.specs.Patterns.{complemented_if, no_literal, picked, third, made, IsThird, IsPattern}

-- with one more literal, of a variable that none before it has
pub apart_more : (lits : List Lit) (i : ℕ) (d : Lit) → i < length lits → AreApart (take i lits)
    → list_any (λ x. x.var == (get_or lits i d).var) (take i lits) ≡ false → AreApart (take (i + 1) lits)
apart_more lits i d l h none =
    let x = get_or lits i d in
    let before : List Lit = take i lits in
    subst AreApart (sym (take_more lits i d l))
    (all_pairs_push (λ a b. b.var ≢ a.var) before x h
    (λ k e within is. let (place, inside, at) = Contains-get_or before k e within in
    false≢true (sym none ∙ list_any-from_Any (λ y. y.var == x.var) before (place, get_or before k e, inside, at, grind (arith, is)))))

pub all_apart : (lits : List Lit) (i : ℕ) → length lits ≤ i → AreApart (take i lits) → AreApart lits
all_apart lits i l h = subst AreApart (take_all i lits l) h

-- whether two literals of different variables are one
differ : (x y : Lit) → y.var ≢ x.var → is_same y x ≡ false
differ x y n = grind (arith, n)

once_two : (x y : Lit) → is_same y x ≡ false → once (x ∷ y ∷ []) ≡ x ∷ y ∷ []
once_two x y e = rw e refl

once_three : (x y z : Lit) → is_same y x ≡ false → is_same z x ≡ false → is_same z y ≡ false → once (x ∷ y ∷ z ∷ []) ≡ x ∷ y ∷ z ∷ []
once_three x y z e f g = rw (e, f, g) refl

-- a literal and its complement have one variable
same_variable : (b : Bool) (x : Lit) → (complemented_if b x).var ≡ x.var
same_variable true x = refl
same_variable false x = refl

module _ (block : List Lit) (apart : AreApart block) where
  places_apart : (p q : PatternLit) → p.place < length block → q.place < length block → q.place ≢ p.place → (picked block q).var ≢ (picked block p).var
  places_apart p q inside within n e =
      let same : (get_or block q.place no_literal).var ≡ (get_or block p.place no_literal).var =
      sym (same_variable q.complemented (get_or block q.place no_literal)) ∙ e ∙ same_variable p.complemented (get_or block p.place no_literal) in
      elim (cases_lt p.place q.place) as (λ c. ⊥) [
        | inl l ↦ apart p.place q.place no_literal l within same
        | inr g ↦ apart q.place p.place no_literal (omega (arith, g, n)) inside (sym same)
      ]

  once_made : (p : Pattern) → IsPattern (length block) p → once (made block p) ≡ made block p
  once_made p is = go p.three is.third where
    x : Lit
    x = picked block p.one

    y : Lit
    y = picked block p.two

    two : is_same y x ≡ false
    two = differ x y (places_apart p.one p.two is.one is.two is.apart)

    go : (q : Option PatternLit) → IsThird (length block) p.one.place p.two.place q → once (x ∷ y ∷ third block q) ≡ x ∷ y ∷ third block q
    go None h = once_two x y two
    go (Some q) (inside, (n, m)) =
        once_three x y (picked block q) two
        (differ x (picked block q) (places_apart p.one q is.one inside n))
        (differ y (picked block q) (places_apart p.two q is.two inside m))

  -- patterns make clauses that keep each literal once
  pub once_all_made : (patterns : List Pattern) → All (IsPattern (length block)) patterns → map once (map (made block) patterns) ≡ map (made block) patterns
  once_all_made [] all = refl
  once_all_made (p ∷ ps) all =
      rw (once_made p (All-head (IsPattern (length block)) p ps all), once_all_made ps (All-tail (IsPattern (length block)) p ps all)) refl
