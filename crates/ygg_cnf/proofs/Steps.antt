-- One step of a chain, and chains over equal sets. `held` is which clause a number names; it names one at most.
use Rattle.std.proofs.Common.{◌≡◌, ℕ, zero, suc, List, [], ◌∷◌, Contains, ◌↔◌, inl, inr, ⊎_elim, sym, subst, ◌∙◌}
use Rattle.std.proofs.lemmas.Option.{same_Some}
use Rattle.ygg_cnf.specs.declared.lit.Lit.{Lit}
use Rattle.ygg_cnf.specs.Literals.{IsSameSet}
use Rattle.ygg_cnf.specs.Derivations.{IsPivot, Resolvent, HasClause, Resolves, DerivesClause}

-- each number names one clause at most
abbrev pub NamesOne : (ℕ → List Lit → Type 0) → Type 0
NamesOne held = (id : ℕ) (a b : List Lit) → held id a → held id b → a ≡ b

pub one_clause : (clauses : List (List Lit)) → NamesOne (HasClause clauses)
one_clause clauses zero a b h k = absurd h
one_clause clauses (suc i) a b h k = same_Some a b (sym h ∙ k)

same_pivot_set : (set kept : Lit → Type 0) (next : List Lit) (x : Lit) → ((y : Lit) → set y ↔ kept y) → IsPivot set next x → IsPivot kept next x
same_pivot_set set kept next x e p = record {
  here = (e x).0 p.here;
  there = p.there;
  only = λ y h c. p.only y ((e y).1 h) c;
}

same_resolvent : (set kept : Lit → Type 0) (next : List Lit) (x : Lit) → ((y : Lit) → set y ↔ kept y)
    → (y : Lit) → Resolvent set next x y ↔ Resolvent kept next x y
same_resolvent set kept next x e y =
    (⊎_elim (λ a. inl ((e y).0 a.0, a.1)) (λ b. inr b), ⊎_elim (λ a. inl ((e y).1 a.0, a.1)) (λ b. inr b))

module _ (held : ℕ → List Lit → Type 0) where
  pub resolves_same : (set kept : Lit → Type 0) (ids : List ℕ) (clause : List Lit)
      → ((y : Lit) → set y ↔ kept y) → Resolves held set ids clause → Resolves held kept ids clause
  resolves_same set kept [] clause e r = λ y. ((λ k. (r y).0 ((e y).1 k)), (λ c. (e y).0 ((r y).1 c)))
  resolves_same set kept (id ∷ ids) clause e (next, (at, (x, (p, r)))) = (
    next,
    (
      at,
      (
        x,
        (
          same_pivot_set set kept next x e p,
          resolves_same (Resolvent set next x) (Resolvent kept next x) ids clause (same_resolvent set kept next x e) r,
        ),
      ),
    ),
  )

  -- a chain derives a clause in every form of its set
  resolves_set : (set : Lit → Type 0) (ids : List ℕ) (clause other : List Lit) → IsSameSet clause other
      → Resolves held set ids clause → Resolves held set ids other
  resolves_set set [] clause other same r = λ y. ((λ k. (same y).0 ((r y).0 k)), (λ c. (r y).1 ((same y).1 c)))
  resolves_set set (id ∷ ids) clause other same (next, (at, (x, (p, r)))) =
      (next, (at, (x, (p, resolves_set (Resolvent set next x) ids clause other same r))))

  pub derives_set : (chain : List ℕ) (clause other : List Lit) → IsSameSet clause other
      → DerivesClause held chain clause → DerivesClause held chain other
  derives_set [] clause other same d = absurd d
  derives_set (id ∷ ids) clause other same (first, (at, r)) =
      (first, (at, resolves_set (Contains first) ids clause other same r))

  -- no clause of that number
  pub stuck_number : (set : Lit → Type 0) (id : ℕ) (ids : List ℕ) (clause : List Lit)
      → ((next : List Lit) → held id next → ⊥) → Resolves held set (id ∷ ids) clause → ⊥
  stuck_number set id ids clause n (next, (at, rest)) = n next at

  module _ (one : NamesOne held) where
    -- a step on a pivot
    pub resolves_step : (set after : Lit → Type 0) (id : ℕ) (ids : List ℕ) (next : List Lit) (x : Lit) (clause : List Lit)
        → held id next → IsPivot set next x → ((y : Lit) → after y ↔ Resolvent set next x y)
        → Resolves held set (id ∷ ids) clause ↔ Resolves held after ids clause
    resolves_step set after id ids next x clause at p e = (
      (λ (other, (there, (z, (q, r)))).
          let o : other ≡ next = one id other next there at in
          let q' : IsPivot set next z = subst (λ l. IsPivot set l z) o q in
          let s : z ≡ x = p.only z q'.here q'.there in
          let r' : Resolves held (Resolvent set next x) ids clause =
          subst (λ w. Resolves held (Resolvent set next w) ids clause) s (subst (λ l. Resolves held (Resolvent set l z) ids clause) o r) in
          resolves_same (Resolvent set next x) after ids clause (λ y. ((e y).1, (e y).0)) r'),
      (λ r. (next, (at, (x, (p, resolves_same after (Resolvent set next x) ids clause e r))))),
    )

    -- no pivot
    pub stuck_pivot : (set : Lit → Type 0) (id : ℕ) (ids : List ℕ) (next clause : List Lit)
        → held id next → ((x : Lit) → IsPivot set next x → ⊥) → Resolves held set (id ∷ ids) clause → ⊥
    stuck_pivot set id ids next clause at n (other, (there, (x, (p, r)))) =
        n x (subst (λ l. IsPivot set l x) (one id other next there at) p)

    -- the first number of a chain
    pub first_step : (set : Lit → Type 0) (id : ℕ) (ids : List ℕ) (first clause : List Lit)
        → held id first → ((y : Lit) → set y ↔ Contains first y)
        → DerivesClause held (id ∷ ids) clause ↔ Resolves held set ids clause
    first_step set id ids first clause at e = (
      (λ (other, (there, r)).
          resolves_same (Contains first) set ids clause (λ y. ((e y).1, (e y).0))
          (subst (λ (l : List Lit). Resolves held (Contains l) ids clause) (one id other first there at) r)),
      (λ r. (first, (at, resolves_same set (Contains first) ids clause e r))),
    )
