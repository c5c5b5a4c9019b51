-- The trail: no literal is false together with its complement, and a reason gives a pivot.
use Rattle.std.proofs.Common.{
  get_or,
  All,
  ◌≡◌,
  ◌≢◌,
  ℕ,
  zero,
  suc,
  ◌<◌,
  ◌≤◌,
  ◌+◌,
  Bool,
  true,
  false,
  not,
  List,
  [],
  ◌∷◌,
  ◌++◌,
  length,
  Contains,
  ◌⊎◌,
  inl,
  inr,
  ⊎_elim,
  sym,
  subst,
  ap,
  ◌∙◌,
  Option,
  Some,
  None,
  arith,
  slice_get,
  append_assoc,
  IsSome,
}
use Rattle.std.proofs.lemmas.Bool.{false≢true, cases_eq, cases_lt}
use Rattle.std.proofs.lemmas.List.Elements.{Contains-get_or}
use Rattle.ygg_cnf_set.specs.LiteralSet.{InSet, Fits}
use Rattle.ygg_cnf.proofs.Lits.{complement_twice, lit_cases}
use Rattle.ygg_cnf.proofs.Steps.{one_clause}
use Rattle.ygg_cnf.specs.Derivations.{IsPivot, Resolvent, HasClause, Resolves, DerivesClause}
use Rattle.ygg_cnf.specs.Literals.{complement}
use Rattle.ygg_cnf.specs.declared.lit.Lit.{Lit}
use Rattle.ygg_solver.specs.Learning.{IsSound, IsSeenAt, ChainReaches}
use Rattle.ygg_watch.specs.Trail.{IsAt, IsFalseBefore, IsReason}
use Rattle.ygg_watch.specs.declared.entry.Entry.{Entry}
use Rattle.ygg_watch.proofs.TrailLemmas.{one_entry, entry_within}

not_own : (b : Bool) → not b ≡ b → ⊥
not_own true e = false≢true e
not_own false e = false≢true (sym e)

pub not_both : (clauses : List (List Lit)) (trail : List Entry) (n m : ℕ) (y : Lit) → IsSound clauses trail
    → IsFalseBefore trail n y → IsFalseBefore trail m (complement y) → ⊥
not_both clauses trail n m y s (p, (d, (l, (at, same)))) (q, (e, (k, (there, other)))) =
    let o : e.lit ≡ y = other ∙ complement_twice y in
    let v : d.lit.var ≡ e.lit.var = ap (λ (x : Lit). x.var) same ∙ sym (ap (λ (x : Lit). x.var) o) in
    let pq : p ≡ q = s.distinct p q d e at there v in
    let de : d ≡ e = one_entry trail q d e (subst (λ i. IsAt trail i d) pq at) there in
    let c : complement y ≡ y = sym same ∙ (ap (λ (x : Entry). x.lit) de ∙ o) in
    not_own y.negated (ap (λ (x : Lit). x.negated) c)

pub later : (trail : List Entry) (n m : ℕ) (y : Lit) → n ≤ m → IsFalseBefore trail n y → IsFalseBefore trail m y
later trail n m y le (p, (d, (l, r))) = (p, (d, (omega arith, r)))

-- a reason has one literal whose complement is in a set of false literals
pub reason_pivot : (clauses : List (List Lit)) (trail : List Entry) (held : Lit → Type 0) (n m id : ℕ) (x : Lit) (clause : List Lit)
    → IsSound clauses trail → IsReason clauses trail n id x clause
    → ((y : Lit) → held y → IsFalseBefore trail m y) → held (complement x)
    → IsPivot held clause (complement x)
reason_pivot clauses trail held n m id x clause s r falses h = record {
  here = h;
  there = subst (Contains clause) (sym (complement_twice x)) r.here;
  only = λ y k c. ⊎_elim (λ e. sym (complement_twice y) ∙ ap complement e)
      (λ d. absurd (not_both clauses trail m n y s (falses y k) (r.others (complement y) c d)))
      (lit_cases (complement y) x);
}

got_within : (clauses : List (List Lit)) (i : ℕ) (clause : List Lit) → slice_get clauses i ≡ Some clause → suc i ≤ length clauses
got_within [] i clause h = cc
got_within (c ∷ cs) zero clause h = omega arith
got_within (c ∷ cs) (suc i) clause h = let r = got_within cs i clause h in omega arith

pub numbered_within : (clauses : List (List Lit)) (id : ℕ) (clause : List Lit) → HasClause clauses id clause → (0 < id) × (id ≤ length clauses)
numbered_within clauses zero clause h = absurd h
numbered_within clauses (suc i) clause h = (omega arith, got_within clauses i clause h)

-- one place more that is not seen
pub none_more : (P : ℕ → Type 0) (at end : ℕ) → (P at → ⊥) → ((q : ℕ) → suc at ≤ q → q < end → P q → ⊥) → (q : ℕ) → at ≤ q → q < end → P q → ⊥
none_more P at end here above q l k p =
    ⊎_elim (λ e. here (subst P (sym e) p)) (λ n. above q (omega arith) k p) (cases_eq at q)

-- the reason of an entry
pub entry_reason : (clauses : List (List Lit)) (trail : List Entry) (at id : ℕ) (entry : Entry) → IsSound clauses trail
    → IsAt trail at entry → entry.reason ≡ Some id → (clause : List Lit) × IsReason clauses trail at id entry.lit clause
entry_reason clauses trail at id entry s h r = s.reasons at entry id h r

-- the reason, as the clause of the number
pub reason_at : (clauses : List (List Lit)) (trail : List Entry) (at id : ℕ) (entry : Entry) (clause : List Lit) → IsSound clauses trail
    → IsAt trail at entry → entry.reason ≡ Some id → HasClause clauses id clause → IsReason clauses trail at id entry.lit clause
reason_at clauses trail at id entry clause s h r n =
    let found = s.reasons at entry id h r in
    subst (λ c. IsReason clauses trail at id entry.lit c) (one_clause clauses id found.0 clause found.1.numbered n) found.1

-- what is seen after a step on the reason of a place
pub seen_step : (clauses : List (List Lit)) (trail : List Entry) (held after : Lit → Type 0) (at id : ℕ) (entry : Entry) (clause : List Lit)
    → IsAt trail at entry → IsReason clauses trail at id entry.lit clause
    → ((y : Lit) → after y → Resolvent held clause (complement entry.lit) y)
    → (y : Lit) → after y → (held y × ((e : Entry) → IsAt trail at e → y ≢ complement e.lit)) ⊎ IsFalseBefore trail at y
seen_step clauses trail held after at id entry clause h r step y a =
    ⊎_elim
    (λ p. inl (p.0, λ e k q. p.1 (q ∙ ap (λ (x : Entry). complement x.lit) (one_entry trail at e entry k h))))
    (λ p. inr (r.others y p.0 (λ e. p.1 (e ∙ sym (complement_twice entry.lit)))))
    (step y a)

pub seen_entry : (seen : List Bool) (trail : List Entry) (at : ℕ) (entry : Entry) → IsSeenAt seen trail at → IsAt trail at entry →
    InSet seen (complement entry.lit)
seen_entry seen trail at entry (e, (h, m)) k = subst (λ (x : Entry). InSet seen (complement x.lit)) (one_entry trail at e entry h k) m

pub not_here : (trail : List Entry) (at : ℕ) (entry : Entry) (y : Lit) → IsAt trail at entry → IsFalseBefore trail (at + 1) y
    → ((e : Entry) → IsAt trail at e → y ≢ complement e.lit) → IsFalseBefore trail at y
not_here trail at entry y h (q, (e, (l, (k, same)))) other =
    ⊎_elim (λ p. absurd (other e (subst (λ i. IsAt trail i e) p k) (sym (complement_twice y) ∙ ap complement (sym same))))
    (λ n. (q, (e, (omega arith, (k, same))))) (cases_eq q at)

pub lower : (seen : List Bool) (trail : List Entry) (m n : ℕ) (y : Lit) → ((q : ℕ) → m ≤ q → q < n → IsSeenAt seen trail q → ⊥)
    → InSet seen y → IsFalseBefore trail n y → IsFalseBefore trail m y
lower seen trail m n y none k (q, (e, (l, (h, same)))) =
    ⊎_elim (λ b. (q, (e, (b, (h, same)))))
    (λ g. absurd (none q g l (e, (h, subst (InSet seen) (sym (complement_twice y) ∙ ap complement (sym same)) k))))
    (cases_lt q m)

-- a seen set that is false before a place and one after it, without the literal of the place, is false before it
pub falses_step : (clauses : List (List Lit)) (trail : List Entry) (held after : Lit → Type 0) (at : ℕ) (entry : Entry) → IsSound clauses trail
    → IsAt trail at entry
    → ((y : Lit) → held y → IsFalseBefore trail (at + 1) y)
    → ((y : Lit) → after y → (held y × ((e : Entry) → IsAt trail at e → y ≢ complement e.lit)) ⊎ IsFalseBefore trail at y)
    → (y : Lit) → after y → IsFalseBefore trail at y
falses_step clauses trail held after at entry s h falses step y a =
    ⊎_elim (λ p. not_here trail at entry y h (falses y p.0) p.1) (λ f. f) (step y a)

-- a literal that is false before n, and not at a place from m on that is seen, is false before m
pub falses_down : (seen : List Bool) (trail : List Entry) (m n : ℕ) → ((q : ℕ) → m ≤ q → q < n → IsSeenAt seen trail q → ⊥)
    → ((y : Lit) → InSet seen y → IsFalseBefore trail n y) → (y : Lit) → InSet seen y → IsFalseBefore trail m y
falses_down seen trail m n none falses y k = lower seen trail m n y none k (falses y k)

pub seen_within : (seen : List Bool) (trail : List Entry) (q : ℕ) → IsSeenAt seen trail q → q < length trail
seen_within seen trail q (e, (h, m)) = entry_within trail q e h

-- a place that is seen stays so, where another one's literal goes
pub seen_stays : (clauses : List (List Lit)) (seen after : List Bool) (trail : List Entry) (at other : ℕ) → IsSound clauses trail
    → other < at → IsSeenAt seen trail other
    → ((y : Lit) → InSet seen y → ((e : Entry) → IsAt trail at e → y ≢ complement e.lit) → InSet after y)
    → IsSeenAt after trail other
seen_stays clauses seen after trail at other s l (e, (h, m)) kept = (
  e,
  (
    h,
    kept (complement e.lit) m (λ d k q.
        let v : e.lit.var ≡ d.lit.var = ap (λ (x : Lit). x.var) q in
        let p : other ≡ at = s.distinct other at e d h k v in omega arith),
  ),
)

-- one more number at the end of the chain
pub chain_more : (clauses : List (List Lit)) (before after : List Bool) (chain : List ℕ) (id : ℕ)
    → ChainReaches clauses before chain
    → ((rest : List ℕ) (clause : List Lit) → Resolves (HasClause clauses) (InSet after) rest clause →
    Resolves (HasClause clauses) (InSet before) (id ∷ rest) clause)
    → ChainReaches clauses after (chain ++ id ∷ [])
chain_more clauses before after chain id was step rest clause r =
    subst (λ (l : List ℕ). DerivesClause (HasClause clauses) l clause) (sym (append_assoc chain (id ∷ []) rest)) (was (id ∷ rest) clause (step rest clause r))

pub none_is_some : (o : Option ℕ) → o ≡ None → IsSome o → ⊥
none_is_some None e h = grind arith
none_is_some (Some x) e h = cc

-- a seen literal that is false before a place and one after it is false before it, or is the complement of the literal there
pub here_or_before : (trail : List Entry) (at : ℕ) (entry : Entry) (y : Lit) → IsAt trail at entry → IsFalseBefore trail (at + 1) y
    → (y ≡ complement entry.lit) ⊎ IsFalseBefore trail at y
here_or_before trail at entry y h (q, (e, (l, (k, same)))) =
    ⊎_elim (λ p. inl (sym (complement_twice y) ∙ (ap complement (sym same)
    ∙ ap (λ (x : Entry). complement x.lit) (one_entry trail at e entry (subst (λ i. IsAt trail i e) p k) h))))
    (λ n. inr (q, (e, (omega arith, (k, same))))) (cases_eq q at)

pub seen_apart : (clauses : List (List Lit)) (seen after : List Bool) (trail : List Entry) (at other : ℕ) → IsSound clauses trail
    → other ≢ at → IsSeenAt seen trail other
    → ((y : Lit) → InSet seen y → ((e : Entry) → IsAt trail at e → y ≢ complement e.lit) → InSet after y)
    → IsSeenAt after trail other
seen_apart clauses seen after trail at other s d (e, (h, m)) kept =
    (e, (h, kept (complement e.lit) m (λ c k q. d (s.distinct other at e c h k (ap (λ (x : Lit). x.var) q)))))

-- a literal that is false has a place in the set where the entries' literals have one
fits_false : (trail : List Entry) (size n : ℕ) (y : Lit) → ((q : ℕ) (e : Entry) → IsAt trail q e → Fits size e.lit) → IsFalseBefore trail n y → Fits size y
fits_false trail size n y f (q, (e, (l, (h, s)))) = let w = f q e h in let v : e.lit.var ≡ y.var = ap (λ (z : Lit). z.var) s in omega (arith, w, v)

pub fits_clause : (trail : List Entry) (size n : ℕ) (clause : List Lit) → ((q : ℕ) (e : Entry) → IsAt trail q e → Fits size e.lit)
    → ((y : Lit) → Contains clause y → IsFalseBefore trail n y) → All (Fits size) clause
fits_clause trail size n clause f falses k d l = fits_false trail size n (get_or clause k d) f (falses (get_or clause k d) (Contains-get_or clause k d l))
