-- A derived clause follows from the clauses that its chain names.
use Rattle.std.proofs.Common.{◌≡◌, ℕ, get_or, zero, suc, ◌<◌, ◌≤◌, Bool, List, [], ◌∷◌, ◌++◌, length, Contains, All, inl, inr, ⊎_elim, sym, subst, ◌∙◌, arith}
use Rattle.std.proofs.lemmas.List.Elements.{All-contains, All-nil, All-cons, All-push, Contains-append_right, Contains-push, Contains-append_left}
use Rattle.std.proofs.lemmas.Option.{slice_get_within, slice_get-get_or, same_Some}
use Rattle.ygg_cnf.specs.declared.lit.Lit.{Lit}
use Rattle.ygg_cnf.specs.declared.log.Step.{Step}
use Rattle.ygg_cnf.specs.Literals.{complement, Satisfies, SatisfiesClause, SatisfiesAll}
use Rattle.ygg_cnf.specs.Derivations.{Resolvent, HasClause, Resolves, DerivesClause}
use Rattle.ygg_cnf.specs.Logs.{clause_of, chain_of, Derives, Refutes, IsOpen, Teaches, TeachesAt}
use Rattle.ygg_cnf.proofs.Lits.{lit_cases, not_both, satisfied_by}

-- a literal of the set is true
abbrev IsTrueSet : (ℕ → Bool) → (Lit → Type 0) → Type 0
IsTrueSet value set = (y : Lit) × (set y × Satisfies value y)

resolvent_true : (value : ℕ → Bool) (set : Lit → Type 0) (clause : List Lit) (x : Lit)
    → IsTrueSet value set → SatisfiesClause value clause → IsTrueSet value (Resolvent set clause x)
resolvent_true value set clause x (y, (here, t)) (k, z, within, is, u) =
    ⊎_elim
    (λ same. (z, (inr ((k, within, is), λ other. not_both value x (subst (Satisfies value) same t) (subst (Satisfies value) other u)), u)))
    (λ differs. (y, (inl (here, differs), t)))
    (lit_cases y x)

-- each clause that the chain names is true
abbrev AreTrue : (ℕ → List Lit → Type 0) → (ℕ → Bool) → List ℕ → Type 0
AreTrue held value ids = (id : ℕ) (named : List Lit) → Contains ids id → held id named → SatisfiesClause value named

head_true : (held : ℕ → List Lit → Type 0) (value : ℕ → Bool) (id : ℕ) (ids : List ℕ) (named : List Lit)
    → AreTrue held value (id ∷ ids) → held id named → SatisfiesClause value named
head_true held value id ids named all at = all id named (Contains-append_left (id ∷ []) ids id (Contains-push [] id)) at

rest_true : (held : ℕ → List Lit → Type 0) (value : ℕ → Bool) (id : ℕ) (ids : List ℕ) → AreTrue held value (id ∷ ids) → AreTrue held value ids
rest_true held value id ids all other named c at = all other named (Contains-append_right (id ∷ []) ids other c) at

resolves_true : (held : ℕ → List Lit → Type 0) (value : ℕ → Bool) (set : Lit → Type 0) (ids : List ℕ) (clause : List Lit)
    → Resolves held set ids clause → IsTrueSet value set → AreTrue held value ids → SatisfiesClause value clause
resolves_true held value set [] clause r (y, (here, t)) all = satisfied_by value clause y ((r y).0 here) t
resolves_true held value set (id ∷ ids) clause (next, (at, (x, (p, r)))) t all =
    resolves_true held value (Resolvent set next x) ids clause r
    (resolvent_true value set next x t (head_true held value id ids next all at)) (rest_true held value id ids all)

-- whatever the numbers name, a derived clause is true where the named ones are
pub derived_true : (held : ℕ → List Lit → Type 0) (value : ℕ → Bool) (chain : List ℕ) (clause : List Lit)
    → DerivesClause held chain clause
    → ((id : ℕ) (named : List Lit) → Contains chain id → held id named → SatisfiesClause value named)
    → SatisfiesClause value clause
derived_true held value [] clause d all = absurd d
derived_true held value (id ∷ ids) clause (first, (at, r)) all =
    let (k, y, within, is, t) = head_true held value id ids first all at in
    resolves_true held value (Contains first) ids clause r (y, ((k, within, is), t)) (rest_true held value id ids all)

-- a numbered clause is one of the list
pub numbered_among : (clauses : List (List Lit)) (id : ℕ) (clause : List Lit) → HasClause clauses id clause → Contains clauses clause
numbered_among clauses zero clause h = absurd h
numbered_among clauses (suc place) clause h =
    let within : place < length clauses = slice_get_within clauses place clause h in
    (place, within, same_Some (get_or clauses place clause) clause (sym (slice_get-get_or clauses place clause within) ∙ h))

numbered_within : (clauses : List (List Lit)) (id : ℕ) (clause : List Lit) → HasClause clauses id clause → (0 < id) × (id ≤ length clauses)
numbered_within clauses zero clause h = absurd h
numbered_within clauses (suc place) clause h =
    let within : place < length clauses = slice_get_within clauses place clause h in
    (omega arith, omega (arith, within))

resolved_within : (clauses : List (List Lit)) (set : Lit → Type 0) (ids : List ℕ) (clause : List Lit)
    → Resolves (HasClause clauses) set ids clause → All (λ id. (0 < id) × (id ≤ length clauses)) ids
resolved_within clauses set [] clause r = All-nil (λ id. (0 < id) × (id ≤ length clauses))
resolved_within clauses set (id ∷ ids) clause (next, (at, (x, (p, r)))) =
    All-cons (λ id. (0 < id) × (id ≤ length clauses)) id ids (numbered_within clauses id next at)
    (resolved_within clauses (Resolvent set next x) ids clause r)

-- the numbers of a chain are those of clauses that are there
pub chain_within : (clauses : List (List Lit)) (chain : List ℕ) (clause : List Lit)
    → DerivesClause (HasClause clauses) chain clause → All (λ id. (0 < id) × (id ≤ length clauses)) chain
chain_within clauses [] clause d = absurd d
chain_within clauses (id ∷ ids) clause (first, (at, r)) =
    All-cons (λ id. (0 < id) × (id ≤ length clauses)) id ids (numbered_within clauses id first at)
    (resolved_within clauses (Contains first) ids clause r)

-- the clauses of a log are true where the given ones are
pub log_true : (value : ℕ → Bool) (clauses : List (List Lit)) (log : List Step)
    → Derives clauses log → SatisfiesAll value clauses → All (λ step. SatisfiesClause value (clause_of step)) log
log_true value clauses [] d all = All-nil (λ step. SatisfiesClause value (clause_of step))
log_true value clauses (step ∷ log) d all =
    let here : SatisfiesClause value (clause_of step) =
    derived_true (HasClause clauses) value (chain_of step) (clause_of step) d.0
    (λ id named c at. All-contains (SatisfiesClause value) clauses named all (numbered_among clauses id named at)) in
    All-cons (λ s. SatisfiesClause value (clause_of s)) step log here
    (log_true value (clauses ++ clause_of step ∷ []) log d.1 (All-push (SatisfiesClause value) clauses (clause_of step) all here))

empty_false : (value : ℕ → Bool) → SatisfiesClause value [] → ⊥
empty_false value (k, x, within, is, t) = absurd (omega (arith, within))

-- clauses with a log that refutes them aren't all true
pub refuted_false : (clauses : List (List Lit)) (log : List Step) (value : ℕ → Bool) → Refutes clauses log → SatisfiesAll value clauses → ⊥
refuted_false clauses log value r all =
    ⊎_elim (λ given. empty_false value (All-contains (SatisfiesClause value) clauses [] all given))
    (λ (rest, (step, (ends, empty))).
    let among : Contains log step = subst (λ (l : List Step). Contains l step) (sym ends) (Contains-push rest step) in
    empty_false value (subst (SatisfiesClause value) empty
    (All-contains (λ s. SatisfiesClause value (clause_of s)) log step (log_true value clauses log r.derives all) among)))
    r.empty

-- a literal of a clause that is false but for x is x, where its complement isn't in the set
left_over : (clauses : List (List Lit)) (clause set : List Lit) (x y : Lit) → TeachesAt clauses clause set x
    → Contains clause y → (Contains set (complement y) → ⊥) → y ≡ x
left_over clauses clause set x y t c open' = ⊎_elim (λ e. e) (λ n. absurd (open' (t.others y c n))) (lit_cases y x)

-- a clause that teaches contains none of the clauses before it
pub taught_new : (clauses : List (List Lit)) (clause given : List Lit) → Teaches clauses clause → Contains clauses given
    → ((x : Lit) → Contains given x → Contains clause x) → ⊥
taught_new clauses clause given (set, (x, t)) among within =
    ⊎_elim
    (λ (k, y, inside, is, true').
    ⊎_elim (λ e. t.undecided.0 (subst (Contains set) e true')) (λ n. t.consistent y true' (t.others y (within y (k, inside, is)) n)) (lit_cases y x))
    (λ (y, (z, (here, there, differ, free, free'))).
    differ (left_over clauses clause set x y t (within y here) free ∙ sym (left_over clauses clause set x z t (within z there) free')))
    (All-contains (IsOpen set) clauses given t.opens among)
