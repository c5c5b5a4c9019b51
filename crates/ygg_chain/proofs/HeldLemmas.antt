-- Steps of a chain over clauses that are kept by places.
use Rattle.std.proofs.Common.{
  ◌≡◌,
  ℕ,
  zero,
  suc,
  ◌<◌,
  ◌≤◌,
  ◌+◌,
  Bool,
  List,
  [],
  ◌∷◌,
  length,
  map,
  get_or,
  take,
  drop,
  Contains,
  All,
  Option,
  Some,
  None,
  option_map,
  slice_get,
  ◌⊎◌,
  ◌↔◌,
  inl,
  inr,
  ⊎_elim,
  refl,
  sym,
  ap,
  subst,
  ◌∙◌,
  arith,
  add-one,
  drop-cons,
}
use Rattle.std.proofs.lemmas.List.Elements.{All-contains, All-weaker, Contains-append_left, Contains-append_right, Contains-push}
use Rattle.std.proofs.lemmas.Option.{slice_get-map}
use Rattle.ygg_cnf.specs.declared.lit.Lit.{Lit}
use Rattle.ygg_cnf.specs.Literals.{complement}
use Rattle.ygg_cnf.specs.Derivations.{IsPivot, Resolvent, HasClause, Resolves, DerivesClause}
use Rattle.ygg_cnf.proofs.Steps.{one_clause, resolves_step, stuck_number, stuck_pivot, first_step}
use Rattle.ygg_cnf.proofs.Soundness.{numbered_among}
use Rattle.ygg_chain.specs.Places.{IsDistinct, IsPlaced, literal_at, StandsFor, clause_at, clauses_at}
use Rattle.ygg_cnf_set.specs.LiteralSet.{Fits, InSet, IsSetOf}
use Rattle.ygg_chain.specs.Held.{Holds, IsKept, InSetAs, IsNumbered, IsNamed}
use Rattle.ygg_cnf_set.proofs.ListLemmas.{contains_more, contains_all, contains_front}
use Rattle.ygg_chain.proofs.PlaceLemmas.{contains_map, contains_of_map, stands_once}
use Rattle.ygg_cnf_set.proofs.LiteralSetLemmas.{contains_cases}

-- ---- clauses by number

-- the clause that a kept one stands for
pub held_numbered : (variables : List ℕ) (clauses : List (List Lit)) (id : ℕ) (kept : List Lit)
    → HasClause clauses id kept → HasClause (clauses_at variables clauses) id (clause_at variables kept)
held_numbered variables clauses zero kept h = absurd h
held_numbered variables clauses (suc place) kept h =
    slice_get-map (clause_at variables) clauses place ∙ ap (option_map (clause_at variables)) h

some_of_map : {X Y : Type 0} (f : X → Y) (found : Option X) (y : Y) → option_map f found ≡ Some y → (x : X) × (found ≡ Some x)
some_of_map f None y e = cc
some_of_map f (Some x) y e = (x, refl)

-- a clause that is held is kept
pub kept_numbered : (variables : List ℕ) (clauses : List (List Lit)) (id : ℕ) (clause : List Lit)
    → HasClause (clauses_at variables clauses) id clause → (kept : List Lit) × HasClause clauses id kept
kept_numbered variables clauses zero clause h = absurd h
kept_numbered variables clauses (suc place) clause h =
    some_of_map (clause_at variables) (slice_get clauses place) clause (sym (slice_get-map (clause_at variables) clauses place) ∙ h)

pub placed_numbered : (variables : List ℕ) (clauses : List (List Lit)) (seen : ℕ) (id : ℕ) (kept : List Lit)
    → IsKept variables clauses seen → HasClause clauses id kept → All (IsPlaced variables) kept
placed_numbered variables clauses seen id kept k h =
    All-contains (All (IsPlaced variables)) clauses kept k.placed (numbered_among clauses id kept h)

pub fits_numbered : (variables : List ℕ) (clauses : List (List Lit)) (seen : ℕ) (id : ℕ) (kept : List Lit)
    → IsKept variables clauses seen → HasClause clauses id kept → All (Fits seen) kept
fits_numbered variables clauses seen id kept k h =
    All-weaker (IsPlaced variables) (Fits seen) (λ x p. omega (arith, p, k.room)) kept
    (placed_numbered variables clauses seen id kept k h)

nothing_of_map : {X Y : Type 0} (f : X → Y) (xs : List X) → map f xs ≡ [] → xs ≡ []
nothing_of_map f [] e = refl
nothing_of_map f (x ∷ xs) e = cc

-- an empty clause is held where one is kept
pub empty_held : (variables : List ℕ) (clauses : List (List Lit)) → Contains clauses [] ↔ Contains (clauses_at variables clauses) []
empty_held variables clauses = (
  (λ c. contains_map (clause_at variables) clauses [] c),
  (λ c. let (kept, (there, is)) = contains_of_map (clause_at variables) clauses [] c in
      subst (Contains clauses) (nothing_of_map (literal_at variables) kept is) there),
)

-- ---- one step, by places and by variables

module _ (variables : List ℕ) (distinct : IsDistinct variables) (seen : List Bool) (next : List Lit) (placed : All (IsPlaced variables) next) where
  -- what stands for a literal of the clause is in the kept one
  stands_among : (x : Lit) → IsPlaced variables x → Contains (clause_at variables next) (literal_at variables x) → Contains next x
  stands_among x inside c =
      let (z, (there, is)) = contains_of_map (literal_at variables) next (literal_at variables x) c in
      subst (Contains next) (stands_once variables distinct z x (literal_at variables x) (All-contains (IsPlaced variables) next z placed there, is)
      (inside, refl)) there

  pub placed_pivot : (x : Lit) → IsPivot (InSet seen) next x → IsPivot (InSetAs variables seen) (clause_at variables next) (literal_at variables x)
  placed_pivot x p = record {
    here = (x, ((All-contains (IsPlaced variables) next (complement x) placed p.there, refl), p.here));
    there = contains_map (literal_at variables) next (complement x) p.there;
    only = λ y (z, ((inside, is), m)) c.
        let there : Contains next (complement z) =
        stands_among (complement z) inside (subst (λ l. Contains (clause_at variables next) (complement l)) (sym is) c) in
        sym is ∙ ap (literal_at variables) (p.only z m there);
  }

  pub no_placed_pivot : ((x : Lit) → IsPivot (InSet seen) next x → ⊥) → (y : Lit) → IsPivot (InSetAs variables seen) (clause_at variables next) y → ⊥
  no_placed_pivot none y p =
      let (x, ((inside, is), m)) = p.here in
      none x (record {
        here = m;
        there = stands_among (complement x) inside (subst (λ l. Contains (clause_at variables next) (complement l)) (sym is) p.there);
        only = λ z n c.
            let within : IsPlaced variables z = All-contains (IsPlaced variables) next (complement z) placed c in
            let same : literal_at variables z ≡ y =
            p.only (literal_at variables z) (z, ((within, refl), n)) (contains_map (literal_at variables) next (complement z) c) in
            stands_once variables distinct z x y (within, same) (inside, is);
      })

  pub placed_resolvent : (after : List Bool) (x : Lit) → IsPlaced variables x → IsSetOf after (Resolvent (InSet seen) next x)
      → (y : Lit) → InSetAs variables after y ↔ Resolvent (InSetAs variables seen) (clause_at variables next) (literal_at variables x) y
  placed_resolvent after x within new y = (
    (λ (z, ((inside, is), m)).
        ⊎_elim
        (λ a. inl ((z, ((inside, is), a.0)), λ e. a.1 (stands_once variables distinct z x y (inside, is) (within, sym e))))
        (λ b. inr (
          subst (Contains (clause_at variables next)) is (contains_map (literal_at variables) next z b.0),
          λ e. b.1 (stands_once variables distinct z (complement x) y (inside, is) (within, sym e)),
        ))
        ((new z).0 m)),
    ⊎_elim
        (λ ((z, ((inside, is), m)), differs). (z, ((inside, is), (new z).1 (inl (m, λ e. differs (sym is ∙ ap (literal_at variables) e))))))
        (λ (c, differs).
        let (z, (there, is)) = contains_of_map (literal_at variables) next y c in (
          z,
          (
            (All-contains (IsPlaced variables) next z placed there, is),
            (new z).1 (inr (there, λ e. differs (sym is ∙ ap (literal_at variables) e))),
          ),
        )),
  )

-- ---- one number of a chain

module _ (variables : List ℕ) (clauses : List (List Lit)) (room : ℕ) (kept : IsKept variables clauses room) where
  pub no_number : (set : Lit → Type 0) (id : ℕ) (ids : List ℕ) (clause : List Lit)
      → ((next : List Lit) → HasClause clauses id next → ⊥) → Resolves (Holds variables clauses) set (id ∷ ids) clause → ⊥
  no_number set id ids clause none =
      stuck_number (Holds variables clauses) set id ids clause
      (λ next at. let (found, there) = kept_numbered variables clauses id next at in none found there)

  pub no_pivot : (seen : List Bool) (id : ℕ) (ids : List ℕ) (next clause : List Lit)
      → HasClause clauses id next → ((x : Lit) → IsPivot (InSet seen) next x → ⊥)
      → Resolves (Holds variables clauses) (InSetAs variables seen) (id ∷ ids) clause → ⊥
  no_pivot seen id ids next clause at none =
      stuck_pivot (Holds variables clauses) (one_clause (clauses_at variables clauses)) (InSetAs variables seen) id ids
      (clause_at variables next) clause (held_numbered variables clauses id next at)
      (no_placed_pivot variables kept.distinct seen next (placed_numbered variables clauses room id next kept at) none)

  pub kept_step : (seen after : List Bool) (id : ℕ) (ids : List ℕ) (next : List Lit) (x : Lit) (clause : List Lit)
      → HasClause clauses id next → IsPivot (InSet seen) next x → IsSetOf after (Resolvent (InSet seen) next x)
      → Resolves (Holds variables clauses) (InSetAs variables seen) (id ∷ ids) clause
      ↔ Resolves (Holds variables clauses) (InSetAs variables after) ids clause
  kept_step seen after id ids next x clause at p new =
      let placed : All (IsPlaced variables) next = placed_numbered variables clauses room id next kept at in
      resolves_step (Holds variables clauses) (one_clause (clauses_at variables clauses))
      (InSetAs variables seen) (InSetAs variables after) id ids (clause_at variables next) (literal_at variables x) clause
      (held_numbered variables clauses id next at)
      (placed_pivot variables kept.distinct seen next placed x p)
      (placed_resolvent variables kept.distinct seen next placed after x (All-contains (IsPlaced variables) next (complement x) placed p.there) new)

  -- the set of a kept clause has the clause's literals
  pub kept_first : (seen : List Bool) (id : ℕ) (ids : List ℕ) (first clause : List Lit)
      → HasClause clauses id first → IsSetOf seen (Contains first)
      → DerivesClause (Holds variables clauses) (id ∷ ids) clause
      ↔ Resolves (Holds variables clauses) (InSetAs variables seen) ids clause
  kept_first seen id ids first clause at new =
      let placed : All (IsPlaced variables) first = placed_numbered variables clauses room id first kept at in
      first_step (Holds variables clauses) (one_clause (clauses_at variables clauses)) (InSetAs variables seen) id ids
      (clause_at variables first) clause (held_numbered variables clauses id first at)
      (λ y. (
        (λ (z, ((inside, is), m)). subst (Contains (clause_at variables first)) is (contains_map (literal_at variables) first z ((new z).0 m))),
        (λ c. let (z, (there, is)) = contains_of_map (literal_at variables) first y c in
            (z, ((All-contains (IsPlaced variables) first z placed there, is), (new z).1 there))),
      ))

-- ---- chains, number by number

pub next_number : (ids : List ℕ) (i : ℕ) → i < length ids → drop i ids ≡ get_or ids i 0 ∷ drop (i + 1) ids
next_number ids i h = rw (add-one, drop-cons ids i 0)

pub named_more : (clauses : List (List Lit)) (ids : List ℕ) (i : ℕ) (y : Lit) → i < length ids
    → IsNamed clauses (take (i + 1) ids) y ↔ (IsNamed clauses (take i ids) y ⊎ IsNumbered clauses (get_or ids i 0) y)
named_more clauses ids i y l = (
  (λ (id, (c, n)). ⊎_elim (λ a. inl (id, (a, n))) (λ e. inr (subst (λ k. IsNumbered clauses k y) e n)) ((contains_more ids i 0 l id).0 c)),
  ⊎_elim (λ (id, (c, n)). (id, ((contains_more ids i 0 l id).1 (inl c), n)))
      (λ n. (get_or ids i 0, ((contains_more ids i 0 l (get_or ids i 0)).1 (inr refl), n))),
)

pub named_front : (clauses : List (List Lit)) (ids : List ℕ) (i : ℕ) (y : Lit) → IsNamed clauses (take i ids) y → IsNamed clauses ids y
named_front clauses ids i y (id, (c, n)) = (id, (contains_front ids i id c, n))

pub named_all : (clauses : List (List Lit)) (ids : List ℕ) (i : ℕ) (y : Lit) → length ids ≤ i → IsNamed clauses ids y → IsNamed clauses (take i ids) y
named_all clauses ids i y l (id, (c, n)) = (id, ((contains_all ids i l id).1 c, n))

-- ---- what is left at the end of a chain

pub remove_as_more : (variables : List ℕ) (before now after : List Bool) (xs : List Lit) (i : ℕ) (d : Lit) → i < length xs
    → IsSetOf now (λ x. InSet before x × ((y : Lit) → Contains (take i xs) y → StandsFor variables x y → ⊥))
    → IsSetOf after (λ x. InSet now x × (StandsFor variables x (get_or xs i d) → ⊥))
    → IsSetOf after (λ x. InSet before x × ((y : Lit) → Contains (take (i + 1) xs) y → StandsFor variables x y → ⊥))
remove_as_more variables before now after xs i d l was new x = (
  (λ m. let n = (new x).0 m in let b = (was x).0 n.0 in
      (b.0, λ y c s. ⊎_elim (λ a. b.1 y a s) (λ e. n.1 (subst (StandsFor variables x) e s)) ((contains_more xs i d l y).0 c))),
  (λ p. (new x).1 (
    (was x).1 (p.0, λ y c s. p.1 y ((contains_more xs i d l y).1 (inl c)) s),
    λ s. p.1 (get_or xs i d) ((contains_more xs i d l (get_or xs i d)).1 (inr refl)) s,
  )),
)

module _ (clauses : List (List Lit)) (ids : List ℕ) (i : ℕ) (within : i < length ids) (before now after : List Bool)
    (was : IsSetOf now (λ y. InSet before y × (IsNamed clauses (take i ids) y → ⊥))) where
  pub take_more_named : IsSetOf after (λ y. InSet now y × (IsNumbered clauses (get_or ids i 0) y → ⊥))
      → IsSetOf after (λ y. InSet before y × (IsNamed clauses (take (i + 1) ids) y → ⊥))
  take_more_named new y = (
    (λ m. let n = (new y).0 m in let b = (was y).0 n.0 in (b.0, λ named. ⊎_elim b.1 n.1 ((named_more clauses ids i y within).0 named))),
    (λ p. (new y).1 (
      (was y).1 (p.0, λ named. p.1 ((named_more clauses ids i y within).1 (inl named))),
      λ numbered. p.1 ((named_more clauses ids i y within).1 (inr numbered)),
    )),
  )

  pub none_more_named : ((y : Lit) → InSet before y → IsNamed clauses (take i ids) y → ⊥)
      → ((y : Lit) → InSet now y → IsNumbered clauses (get_or ids i 0) y → ⊥)
      → (y : Lit) → InSet before y → IsNamed clauses (take (i + 1) ids) y → ⊥
  none_more_named none here y m named =
      ⊎_elim (none y m) (here y ((was y).1 (m, none y m))) ((named_more clauses ids i y within).0 named)

  pub none_less_named : ((y : Lit) → InSet before y → IsNamed clauses (take (i + 1) ids) y → ⊥)
      → ((y : Lit) → InSet before y → IsNamed clauses (take i ids) y → ⊥) × ((y : Lit) → InSet now y → IsNumbered clauses (get_or ids i 0) y → ⊥)
  none_less_named none = (
    (λ y m named. none y m ((named_more clauses ids i y within).1 (inl named))),
    (λ y m numbered. none y ((was y).0 m).0 ((named_more clauses ids i y within).1 (inr numbered))),
  )

module _ (variables : List ℕ) (clauses : List (List Lit)) (room : ℕ) (kept : IsKept variables clauses room) (ids : List ℕ) (clause : List Lit)
    (before after : List Bool) (named : (y : Lit) → InSet before y → IsNamed clauses ids y)
    (left : IsSetOf after (λ x. InSet before x × ((y : Lit) → Contains clause y → StandsFor variables x y → ⊥))) where
  -- with nothing left, a literal of the set is one of the clause
  pub among_clause : ((y : Lit) → InSet after y → ⊥) → (y : Lit) → InSetAs variables before y → Contains clause y
  among_clause none y (x, (stands, m)) =
      ⊎_elim (λ c. c)
      (λ n. absurd (none x ((left x).1 (m, λ z c s. n (subst (Contains clause) (sym s.1 ∙ stands.1) c)))))
      (contains_cases clause y)

  -- and where all literals of the set are of the clause, none is left
  pub none_left : ((y : Lit) → InSetAs variables before y → Contains clause y) → (y : Lit) → InSet after y → ⊥
  none_left all x m =
      let (was, free) = (left x).0 m in
      let (id, (among, (next, (at, there)))) = named x was in
      let inside : IsPlaced variables x = All-contains (IsPlaced variables) next x (placed_numbered variables clauses room id next kept at) there in
      free (literal_at variables x) (all (literal_at variables x) (x, ((inside, refl), was))) (inside, refl)

-- ---- the first number of a chain

pub no_first : (variables : List ℕ) (clauses : List (List Lit)) (id : ℕ) (ids : List ℕ) (clause : List Lit)
    → ((next : List Lit) → HasClause clauses id next → ⊥) → DerivesClause (Holds variables clauses) (id ∷ ids) clause → ⊥
no_first variables clauses id ids clause none (first, (at, r)) =
    let (found, there) = kept_numbered variables clauses id first at in none found there

pub named_first : (clauses : List (List Lit)) (id : ℕ) (ids : List ℕ) (y : Lit) → IsNumbered clauses id y ⊎ IsNamed clauses ids y → IsNamed clauses (id ∷ ids) y
named_first clauses id ids y =
    ⊎_elim (λ n. (id, (Contains-append_left (id ∷ []) ids id (Contains-push [] id), n)))
    (λ (k, (c, n)). (k, (Contains-append_right (id ∷ []) ids k c, n)))
