-- What is left of a clause, and steps of propagation.
use Rattle.ygg_cnf.proofs.Lits.{same_lit}
use Rattle.std.proofs.Common.{
  ◌↔◌,
  ◌≡◌,
  ◌≢◌,
  ℕ,
  zero,
  suc,
  ◌<◌,
  ◌≤◌,
  ◌+◌,
  true,
  false,
  not,
  List,
  [],
  ◌∷◌,
  ◌++◌,
  length,
  take,
  ◌⊎◌,
  inl,
  inr,
  ⊎_elim,
  sym,
  subst,
  ap,
  ◌∙◌,
  arith,
  refl,
  Option,
  Some,
  None,
  get_or,
  All,
  Contains,
  append_assoc,
}
use Rattle.std.proofs.lemmas.List.Elements.{Contains-get_or, All-contains, All-get_or}
use Rattle.std.proofs.lemmas.Option.{same_Some, slice_get-get_or, slice_get_within, get_or_from_slice_get}
use Rattle.ygg_cnf_set.proofs.ListLemmas.{contains_more, contains_all}
use Rattle.ygg_cnf.proofs.Lits.{lit_cases}
use Rattle.ygg_cnf.specs.Derivations.{HasClause}
use Rattle.ygg_cnf.specs.Literals.{complement}
use Rattle.ygg_cnf.specs.Logs.{IsOpen}
use Rattle.ygg_cnf.specs.declared.lit.Lit.{Lit}
use Rattle.ygg_watch.specs.Status.{IsFree, IsUnit, IsLoose}
use Rattle.ygg_watch.specs.declared.found.Found.{Found}
use Rattle.ygg_watch.specs.declared.found.Found.TheVariants.{Quiet, False}
use Rattle.ygg_watch.specs.Propagation.{HasValue, IsConflict, IsFalse}
use Rattle.ygg_watch.specs.Propagation.{Propagation, IsImplied, Implies, Spreads}
use Rattle.ygg_watch.proofs.AssignmentLemmas.{not_both_on}
use Rattle.ygg_watch.specs.Assignments.{IsTrail}
use Rattle.ygg_watch.proofs.TrailLemmas.{in_before, assigned_has, assigned_at, entry_within, fresh_place, same_or_complement}
use Rattle.ygg_watch.specs.Trail.{IsQuietBefore, IsAt, assigned_before, IsAssigned, IsOnTrail}
use Rattle.ygg_watch.specs.declared.entry.Entry.{Entry}
use Rattle.ygg_watch.proofs.PropagationLemmas.{append-nil}

-- a literal that is neither true nor false is not assigned
pub free_of : (trail : List Entry) (x : Lit) → (IsOnTrail trail x → ⊥) → (IsFalse trail x → ⊥) → IsAssigned trail x.var → ⊥
free_of trail x true_ false_ (k, e, l, at, v) =
    let h : IsAt trail k (get_or trail k e) = slice_get-get_or trail k e l in
    let d : Entry = get_or trail k e in
    let w : d.lit.var ≡ x.var = ap (λ (z : Entry). z.lit.var) at ∙ v in
    ⊎_elim (λ s. true_ (k, (d, (h, s)))) (λ s. false_ (k, (d, (l, (h, s))))) (same_or_complement d.lit x w)

pub not_false : (trail : List Entry) (x : Lit) → IsFree trail x → IsFalse trail x → ⊥
not_false trail x f (q, (e, (l, (h, s)))) = f (fresh_place trail q e x.var h (ap (λ (z : Lit). z.var) s))

-- a literal that is true keeps the clause open, and so do two that are not false
pub open_true : (clause : List Lit) (trail : List Entry) (x : Lit) → Contains clause x → IsOnTrail trail x →
    IsOpen (assigned_before trail (length trail)) clause
open_true clause trail x c (q, (d, (h, t))) =
    inl (c.0, x, c.1, c.2, subst (Contains (assigned_before trail (length trail))) t (assigned_has trail q (length trail) d (entry_within trail q d h) h))

not_assigned_before : (trail : List Entry) (x : Lit) → (IsFalse trail x → ⊥) → Contains (assigned_before trail (length trail)) (complement x) → ⊥
not_assigned_before trail x f c = f (assigned_at trail (length trail) (complement x) c)

pub open_two : (clause : List Lit) (trail : List Entry) (x y : Lit) → Contains clause x → Contains clause y → x ≢ y → (IsFalse trail x → ⊥) →
    (IsFalse trail y → ⊥)
    → IsOpen (assigned_before trail (length trail)) clause
open_two clause trail x y cx cy d fx fy = inr (x, (y, (cx, cy, d, not_assigned_before trail x fx, not_assigned_before trail y fy)))

pub open_loose : (clause : List Lit) (trail : List Entry) (x y : Lit) → IsLoose clause trail x y → IsOpen (assigned_before trail (length trail)) clause
open_loose clause trail x y (cx, (cy, (d, (fx, fy)))) = open_two clause trail x y cx cy d (not_false trail x fx) (not_false trail y fy)

-- nothing is implied yet
pub spreads_none : (p : Propagation) → Spreads p p
spreads_none p = ([], (tt, subst (λ (t : List Entry). let q : Propagation = record p { trail = t } in p ≡ q) (sym (append-nil p.trail)) refl))

implies_more : (p : Propagation) (added : List Entry) (e : Entry) → Implies p added → IsImplied (record p { trail = p.trail ++ added }) e →
    Implies p (added ++ e ∷ [])
implies_more p [] e i is = (subst (λ (t : List Entry). IsImplied (record p { trail = t }) e) (append-nil p.trail) is, tt)
implies_more p (d ∷ added) e (first, i) is = (
  first,
  implies_more (record p { trail = p.trail ++ d ∷ [] }) added e i
      (subst (λ (t : List Entry). IsImplied (record p { trail = t }) e) (sym (append_assoc p.trail (d ∷ []) added)) is),
)

-- one more literal is implied
pub spreads_more : (old now : Propagation) (e : Entry) → Spreads old now → IsImplied now e → Spreads old (record now { trail = now.trail ++ e ∷ [] })
spreads_more old now e (added, (i, is)) implied = (
  added ++ e ∷ [],
  (
    implies_more old added e i (subst (λ (p : Propagation). IsImplied p e) is implied),
    ap (λ (p : Propagation). let q : Propagation = record p { trail = p.trail ++ e ∷ [] } in q) is
        ∙ ap (λ (t : List Entry). let q : Propagation = record old { trail = t } in q) (append_assoc old.trail added (e ∷ [])),
  ),
)

-- the literal of a unit clause is implied
pub unit_implied : (p : Propagation) (id : ℕ) (x : Lit) (clause : List Lit) → HasClause p.clauses id clause → IsUnit clause p.trail x → x.var < p.variable_count
    → IsImplied p (record { lit = x; level = p.level; reason = Some id })
unit_implied p id x clause h (c, (f, others)) l = record {
  fresh = f;
  within = l;
  level = refl;
  reason = (id, (clause, (refl, record { numbered = h; here = c; others = others })));
}

none_not : (y : Lit) → None ≡ Some y → ⊥
none_not y e = cc

-- what is known after some literals of a clause, where none is true
pub record IsPart (clause : List Lit) (trail : List Entry) (i : ℕ) (free : Option Lit) : Type 0 where
  pub seen : (y : Lit) → Contains (take i clause) y → IsFalse trail y ⊎ (free ≡ Some y)
  pub found : (x : Lit) → free ≡ Some x → Contains clause x × IsFree trail x

pub part_none : (clause : List Lit) (trail : List Entry) → IsPart clause trail 0 None
part_none clause trail = record { seen = λ y (k, l, e). absurd (omega arith); found = λ x e. cc }

pub part_false : (clause : List Lit) (trail : List Entry) (i : ℕ) (d : Lit) (free : Option Lit) → i < length clause → IsPart clause trail i free
    → IsFalse trail (get_or clause i d) → IsPart clause trail (i + 1) free
part_false clause trail i d free l was f = record {
  seen = λ y c. ⊎_elim (was.seen y) (λ e. inl (subst (IsFalse trail) (sym e) f)) ((contains_more clause i d l y).0 c);
  found = was.found;
}

pub part_first : (clause : List Lit) (trail : List Entry) (i : ℕ) (d : Lit) → i < length clause → IsPart clause trail i None
    → IsFree trail (get_or clause i d) → IsPart clause trail (i + 1) (Some (get_or clause i d))
part_first clause trail i d l was f = record {
  seen = λ y c. ⊎_elim (λ b. ⊎_elim (λ n. inl n) (λ e. absurd (none_not y e)) (was.seen y b)) (λ e. inr (ap Some (sym e))) ((contains_more clause i d l y).0 c);
  found = λ x e. let s : get_or clause i d ≡ x = same_Some (get_or clause i d) x e in
      (subst (Contains clause) s (Contains-get_or clause i d l), subst (IsFree trail) s f);
}

pub part_same : (clause : List Lit) (trail : List Entry) (i : ℕ) (d : Lit) (free : Option Lit) (x : Lit) → i < length clause →
    IsPart clause trail i free → free ≡ Some x
    → get_or clause i d ≡ x → IsPart clause trail (i + 1) free
part_same clause trail i d free x l was is same = record {
  seen = λ y c. ⊎_elim (was.seen y) (λ e. inr (is ∙ ap Some (sym same ∙ sym e))) ((contains_more clause i d l y).0 c);
  found = was.found;
}

pub part_all : (clause : List Lit) (trail : List Entry) (i : ℕ) (free : Option Lit) → length clause ≤ i → IsPart clause trail i free
    → (y : Lit) → Contains clause y → IsFalse trail y ⊎ (free ≡ Some y)
part_all clause trail i free l was y c = was.seen y ((contains_all clause i l y).1 c)

pub all_false : (clause : List Lit) (trail : List Entry) (i : ℕ) (free : Option Lit) → length clause ≤ i → IsPart clause trail i free → free ≡ None
    → (y : Lit) → Contains clause y → IsFalse trail y
all_false clause trail i free l was n y c = ⊎_elim (λ f. f) (λ e. absurd (none_not y (sym n ∙ e))) (part_all clause trail i free l was y c)

pub is_unit : (clause : List Lit) (trail : List Entry) (i : ℕ) (free : Option Lit) (x : Lit) → length clause ≤ i → IsPart clause trail i free → free ≡ Some x
    → IsUnit clause trail x
is_unit clause trail i free x l was is =
    let f = was.found x is in
    (f.0, (f.1, λ y c d. ⊎_elim (λ n. n) (λ e. absurd (d (same_Some y x (sym e ∙ is)))) (part_all clause trail i free l was y c)))

-- the number of a held clause
pub number_within : (clauses : List (List Lit)) (id : ℕ) (clause : List Lit) → HasClause clauses id clause → (0 < id) × (id ≤ length clauses)
number_within clauses zero clause h = absurd h
number_within clauses (suc i) clause h = let l = slice_get_within clauses i clause h in (omega arith, omega (arith, l))

-- a literal of a held clause is of a variable below variable_count
pub within_of : (clauses : List (List Lit)) (variable_count id : ℕ) (clause : List Lit) (x : Lit) →
    All (λ w. All (λ (y : Lit). y.var < variable_count) w) clauses
    → HasClause clauses id clause → Contains clause x → x.var < variable_count
within_of clauses variable_count zero clause x a h c = absurd h
within_of clauses variable_count (suc i) clause x a h c =
    let l : i < length clauses = slice_get_within clauses i clause h in
    All-contains (λ (y : Lit). y.var < variable_count) clause x
    (subst (λ (w : List Lit). All (λ (y : Lit). y.var < variable_count) w) (get_or_from_slice_get clauses i clause clause h)
    (All-get_or (λ w. All (λ (y : Lit). y.var < variable_count) w) clauses i clause l a)) c

-- the step of a unit clause
pub step_spreads : (old now : Propagation) (id : ℕ) (x : Lit) (clause : List Lit) → Spreads old now → HasClause now.clauses id clause →
    IsUnit clause now.trail x
    → x.var < now.variable_count → (new : Propagation) → new ≡ record now { trail = now.trail ++ record { lit = x; level = now.level; reason = Some id } ∷ [] }
    → Spreads old new
step_spreads old now id x clause s h u l new is =
    subst (λ (p : Propagation). Spreads old p) (sym is) (spreads_more old now _ s (unit_implied now id x clause h u l))

pub state_same : (clauses : List (List Lit)) (trail after : List Entry) (starts starts2 : List ℕ) (variable_count variable_count2 : ℕ) (e : Entry) →
    after ≡ trail
    ++ e ∷ [] → starts2 ≡ starts → variable_count2 ≡ variable_count
    → ◌≡◌ {A = Propagation} (record { clauses = clauses; trail = after; level = length starts2; variable_count = variable_count2 })
    (record { clauses = clauses; trail = trail ++ e ∷ []; level = length starts; variable_count = variable_count })
state_same clauses trail after starts starts2 variable_count variable_count2 e t s r = rw (t, s, r) refl

pub on_of_false : (trail : List Entry) (x : Lit) → IsFalse trail x → IsOnTrail trail (complement x)
on_of_false trail x (q, (e, (l, (h, s)))) = (q, (e, (h, s)))

pub false_of_on : (trail : List Entry) (x : Lit) → IsOnTrail trail (complement x) → IsFalse trail x
false_of_on trail x (q, (e, (h, s))) = (q, (e, (entry_within trail q e h, (h, s))))

-- a clause that is open is not false
open_not_false : (clause : List Lit) (trail : List Entry) (variable_count : ℕ) → IsTrail trail variable_count →
    IsOpen (assigned_before trail (length trail)) clause
    → ((y : Lit) → Contains clause y → IsFalse trail y) → ⊥
open_not_false clause trail variable_count t o f =
    ⊎_elim
    (λ (k, x, l, e, h). let (q, (d, (w, (is, same)))) = assigned_at trail (length trail) x h in
    not_both_on trail variable_count x t (q, (d, (is, same))) (on_of_false trail x (f x (k, l, e))))
    (λ (x, (y, (cx, cy, d, nx, ny))). nx (in_before trail (length trail) x (f x cx)))
    o

open_at : (clauses : List (List Lit)) (set : List Lit) (id : ℕ) (clause : List Lit) → All (IsOpen set) clauses → HasClause clauses id clause → IsOpen set clause
open_at clauses set zero clause a h = absurd h
open_at clauses set (suc i) clause a h =
    subst (IsOpen set) (get_or_from_slice_get clauses i clause clause h) (All-get_or (IsOpen set) clauses i clause (slice_get_within clauses i clause h) a)

-- the answer is quiet exactly where no clause is false
pub quiet_exact : (clauses : List (List Lit)) (trail : List Entry) (variable_count : ℕ) (found : Found) → IsTrail trail variable_count
    → (found ≡ Quiet → IsQuietBefore clauses trail (length trail)) → ((id : ℕ) → found ≡ False id → IsConflict clauses trail id)
    → (found ≡ Quiet) ↔ ((id : ℕ) → IsConflict clauses trail id → ⊥)
quiet_exact clauses trail variable_count Quiet t q f = (
  (λ e id (clause, (h, k)). open_not_false clause trail variable_count t
      (open_at clauses (assigned_before trail (length trail)) id clause (q refl) h) k),
  (λ n. refl),
)
quiet_exact clauses trail variable_count (False id) t q f = ((λ e. cc), (λ n. absurd (n id (f id refl))))

pub conflict_exact : (clauses : List (List Lit)) (trail : List Entry) (found : Found) (id : ℕ) → found ≡ False id → IsConflict clauses trail id
    → (found ≡ Quiet) ↔ ((other : ℕ) → IsConflict clauses trail other → ⊥)
conflict_exact clauses trail found id e k = ((λ q. absurd (let both = sym e ∙ q in cc)), (λ n. absurd (n id k)))

-- what a spreading ends with is one thing
pub quiet_or_false : (id : ℕ) → Quiet ≡ False id → ⊥
quiet_or_false id e = cc

pub one_false : (m n : ℕ) → False m ≡ False n → m ≡ n
one_false m n e = cc

-- an entry gives its variable's value
pub has_value : (trail : List Entry) (var : ℕ) (e : Entry) → e.lit.var ≡ var → (q : ℕ) × IsAt trail q e
    → HasValue trail var (record { value = not e.lit.negated; level = e.level; reason = e.reason })
has_value trail var e v (q, h) = (
  q,
  (
    e,
    (
      h,
      (
        same_lit e.lit (record { var = var; negated = not (not e.lit.negated) }) v
            (elim e.lit.negated as (λ b. b ≡ not (not b)) [ true ↦ refl | false ↦ refl ]),
        (refl, refl),
      ),
    ),
  ),
)

-- a clause is false where one literal is, and each other one of the clause
pub all_but_one : (clause : List Lit) (trail : List Entry) (x : Lit) → IsFalse trail x → ((y : Lit) → Contains clause y → y ≢ x → IsFalse trail y)
    → (y : Lit) → Contains clause y → IsFalse trail y
all_but_one clause trail x f others y c = ⊎_elim (λ e. subst (IsFalse trail) (sym e) f) (λ d. others y c d) (lit_cases y x)
