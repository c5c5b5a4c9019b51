-- With every variable assigned and no clause a unit or false, the trail satisfies each clause.
use Rattle.std.proofs.Common.{
  inl,
  inr,
  ◌≡◌,
  ◌≢◌,
  ℕ,
  zero,
  suc,
  ◌<◌,
  ◌+◌,
  true,
  false,
  not,
  cond,
  List,
  [],
  ◌∷◌,
  ◌++◌,
  length,
  ◌⊎◌,
  ⊎_elim,
  sym,
  subst,
  ap,
  ◌∙◌,
  arith,
  refl,
  eqb,
  All,
  Contains,
  get_or,
  take,
}
use Rattle.std.proofs.lemmas.Bool.{false≢true, cases_eq, cases_Bool, eq-eqb, ne_eqb, eqb-true}
use Rattle.std.proofs.lemmas.List.{take_more}
use Rattle.std.proofs.lemmas.List.Elements.{All-contains, All-cons, All-head, All-tail}
use Rattle.std.proofs.lemmas.Option.{slice_get-get_or, same_Some, get_or_from_slice_get}
use Rattle.ygg_cnf.specs.Literals.{Satisfies, SatisfiesClause, SatisfiesAll}
use Rattle.ygg_cnf.specs.Logs.{IsOpen}
use Rattle.ygg_cnf.specs.declared.lit.Lit.{Lit}
use Rattle.ygg_solver.specs.Learning.{IsSound}
use Rattle.ygg_watch.specs.Propagation.{Propagation}
use Rattle.ygg_solver.specs.Kept.{trail_value, IsReady}
use Rattle.ygg_watch.proofs.TrailLemmas.{entry_within, assigned_at, assigned_has, assigned_of, same_or_complement}
use Rattle.ygg_watch.specs.Trail.{IsAssigned, IsAt, IsQuietBefore, assigned_before}
use Rattle.ygg_watch.proofs.CountLemmas.{is_assigned}
use Rattle.ygg_watch.specs.declared.entry.Entry.{Entry}

-- a variable that is assigned has an entry, whose literal the trail's value satisfies
found_entry : (trail : List Entry) (v : ℕ) → is_assigned trail v ≡ true
    → (q : ℕ) × ((e : Entry) × (IsAt trail q e × ((e.lit.var ≡ v) × (trail_value trail v ≡ not e.lit.negated))))
found_entry [] v h = absurd (false≢true h)
found_entry (d ∷ trail) v h =
    ⊎_elim
    (λ t. (0, (d, (refl, (eqb-true d.lit.var v t, rw t refl)))))
    (λ u. let (q, (e, (k, (s, w)))) = found_entry trail v (rw u at h) in (suc q, (e, (k, (s, rw u w)))))
    (cases_Bool (eqb d.lit.var v))

satisfied_at : (clauses : List (List Lit)) (trail : List Entry) (q : ℕ) (e : Entry) → IsSound clauses trail → IsAt trail q e →
    Satisfies (trail_value trail) e.lit
satisfied_at clauses trail q e s h =
    let (r, (d, (k, (v, w)))) = found_entry trail e.lit.var (assigned_of trail q e h) in
    let p : r ≡ q = s.distinct r q d e k h v in
    let de : d ≡ e = same_Some d e (sym (subst (λ i. IsAt trail i d) p k) ∙ h) in
    w ∙ ap (λ (z : Entry). not z.lit.negated) de

pub satisfies_open : (clauses : List (List Lit)) (trail : List Entry) (clause : List Lit) → IsSound clauses trail
    → ((x : Lit) → Contains clause x → is_assigned trail x.var ≡ true)
    → IsOpen (assigned_before trail (length trail)) clause → SatisfiesClause (trail_value trail) clause
satisfies_open clauses trail clause s all o =
    ⊎_elim
    (λ (k, x, l, e, t). let (q, (d, (w, (h, same)))) = assigned_at trail (length trail) x t in
    (k, x, l, e, subst (Satisfies (trail_value trail)) same (satisfied_at clauses trail q d s h)))
    (λ (x, (y, (cx, cy, d, nx, ny))).
    let (q, (e, (h, (v, w)))) = found_entry trail x.var (all x cx) in
    let l = entry_within trail q e h in
    let is : e.lit ≡ x = ⊎_elim (λ i. i)
    (λ i. absurd (nx (subst (Contains (assigned_before trail (length trail))) i (assigned_has trail q (length trail) e l h))))
    (same_or_complement e.lit x v) in
    (cx.0, x, cx.1, cx.2, subst (Satisfies (trail_value trail)) is (satisfied_at clauses trail q e s h)))
    o

all_front : {X : Type 0} (P : X → Type 0) (xs ys : List X) → All P (xs ++ ys) → All P xs
all_front P [] ys a = λ k d l. absurd (omega arith)
all_front P (x ∷ xs) ys a = All-cons P x xs (All-head P x (xs ++ ys) a) (all_front P xs ys (All-tail P x (xs ++ ys) a))

satisfies_each : (clauses : List (List Lit)) (trail : List Entry) (variable_count : ℕ) (cs : List (List Lit)) → IsSound clauses trail
    → All (λ w. All (λ (x : Lit). x.var < variable_count) w) cs → All (IsOpen (assigned_before trail (length trail))) cs
    → ((v : ℕ) → v < variable_count → is_assigned trail v ≡ true) → SatisfiesAll (trail_value trail) cs
satisfies_each clauses trail variable_count [] s v o all = λ k d l. absurd (omega arith)
satisfies_each clauses trail variable_count (c ∷ cs) s v o all =
    All-cons (SatisfiesClause (trail_value trail)) c cs
    (satisfies_open clauses trail c s
    (λ x h. all x.var (All-contains (λ (z : Lit). z.var < variable_count) c x (All-head (λ w. All (λ (z : Lit). z.var < variable_count) w) c cs v) h))
    (All-head (IsOpen (assigned_before trail (length trail))) c cs o))
    (satisfies_each clauses trail variable_count cs s (All-tail (λ w. All (λ (z : Lit). z.var < variable_count) w) c cs v)
    (All-tail (IsOpen (assigned_before trail (length trail))) c cs o) all)

pub satisfies_front : (p : Propagation) (given learned : List (List Lit)) (variable_count : ℕ) → p.clauses ≡ given ++ learned → IsReady p
    → All (λ w. All (λ (x : Lit). x.var < variable_count) w) (given ++ learned)
    → IsQuietBefore p.clauses p.trail (length p.trail) → ((v : ℕ) → v < variable_count → is_assigned p.trail v ≡ true)
    → SatisfiesAll (trail_value p.trail) given
satisfies_front p given learned variable_count e r v q all =
    all_front (SatisfiesClause (trail_value p.trail)) given learned
    (satisfies_each p.clauses p.trail variable_count (given ++ learned) r.sound v
    (subst (λ (l : List (List Lit)). All (IsOpen (assigned_before p.trail (length p.trail))) l) e q) all)

not_at : (trail : List Entry) (v : ℕ) → ((q : ℕ) (e : Entry) → IsAt trail q e → e.lit.var ≢ v) → is_assigned trail v ≡ false
not_at [] v n = refl
not_at (d ∷ trail) v n = let h : d.lit.var ≢ v = n 0 d refl in rw (ne_eqb d.lit.var v h) (not_at trail v (λ q e k. n (suc q) e k))

value_other : (trail : List Entry) (e : Entry) (v : ℕ) → e.lit.var ≢ v → trail_value (trail ++ e ∷ []) v ≡ trail_value trail v
value_other [] e v d = rw (ne_eqb e.lit.var v d) refl
value_other (x ∷ trail) e v d = ap (λ b. cond (eqb x.lit.var v) (not x.lit.negated) b) (value_other trail e v d)

value_last : (trail : List Entry) (e : Entry) → is_assigned trail e.lit.var ≡ false → trail_value (trail ++ e ∷ []) e.lit.var ≡ not e.lit.negated
value_last [] e n = rw (eq-eqb e.lit.var e.lit.var refl) refl
value_last (x ∷ trail) e n =
    ⊎_elim (λ t. let m = rw t at n in absurd (false≢true (sym m))) (λ f. let m = rw f at n in rw f (value_last trail e m))
    (cases_Bool (eqb x.lit.var e.lit.var))

front_at : (trail : List Entry) (n q : ℕ) (e : Entry) → IsAt (take n trail) q e → (q < n) × IsAt trail q e
front_at [] zero q e h = cc
front_at [] (suc n) q e h = cc
front_at (d ∷ trail) zero q e h = cc
front_at (d ∷ trail) (suc n) zero e h = (omega arith, h)
front_at (d ∷ trail) (suc n) (suc q) e h = let r = front_at trail n q e h in (omega (arith, r.0), r.1)

-- an assigned variable passes the test
pub assigned_test : (trail : List Entry) (v : ℕ) → IsAssigned trail v → is_assigned trail v ≡ true
assigned_test trail v (k, e, l, at, is) =
    let d : Entry = get_or trail k e in
    let same : d.lit.var ≡ v = ap (λ (z : Entry). z.lit.var) at ∙ is in
    subst (λ w. is_assigned trail w ≡ true) same (assigned_of trail k d (slice_get-get_or trail k e l))

-- a variable without entry has the value false
value_none : (trail : List Entry) (v : ℕ) → is_assigned trail v ≡ false → trail_value trail v ≡ false
value_none [] v n = refl
value_none (x ∷ trail) v n =
    ⊎_elim (λ t. let m = rw t at n in absurd (false≢true (sym m))) (λ f. let m = rw f at n in rw f (value_none trail v m)) (cases_Bool (eqb x.lit.var v))

-- what one more entry makes of the value of a variable
pub value_more : (trail : List Entry) (i : ℕ) (e : Entry) → IsAt trail i e
    → ((p q : ℕ) (d c : Entry) → IsAt trail p d → IsAt trail q c → d.lit.var ≡ c.lit.var → p ≡ q) → (v : ℕ)
    → ((e.lit.var ≢ v) × (trail_value (take (i + 1) trail) v ≡ trail_value (take i trail) v))
    ⊎ ((e.lit.var ≡ v) × ((trail_value (take (i + 1) trail) v ≡ not e.lit.negated) × (trail_value (take i trail) v ≡ false)))
value_more trail i e h distinct v =
    let more : take (i + 1) trail ≡ take i trail ++ e ∷ [] = take_more trail i e (entry_within trail i e h)
    ∙ ap (λ (z : Entry). take i trail ++ z ∷ []) (get_or_from_slice_get trail i e e h) in
    let fresh : is_assigned (take i trail) e.lit.var ≡ false = not_at (take i trail) e.lit.var (λ q d g s.
    let a = front_at trail i q d g in let p : q ≡ i = distinct q i d e a.1 h s in let b = a.0 in omega (arith, p, b)) in
    ⊎_elim
    (λ s. inr (
      s,
      (
        subst (λ n. trail_value (take (i + 1) trail) n ≡ not e.lit.negated) s
            (ap (λ (t : List Entry). trail_value t e.lit.var) more ∙ value_last (take i trail) e fresh),
        subst (λ n. trail_value (take i trail) n ≡ false) s (value_none (take i trail) e.lit.var fresh),
      ),
    ))
    (λ d. inl (d, ap (λ (t : List Entry). trail_value t v) more ∙ value_other (take i trail) e v d))
    (cases_eq e.lit.var v)
