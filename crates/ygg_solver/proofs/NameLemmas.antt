-- The variables of places as new names: a renaming of all literals that agrees with them at each place.
use Rattle.std.proofs.Common.{
  take,
  ◌≡◌,
  ◌≢◌,
  ℕ,
  zero,
  suc,
  ◌<◌,
  ◌≤◌,
  ◌+◌,
  Bool,
  true,
  false,
  not,
  cond,
  leb,
  List,
  [],
  ◌∷◌,
  ◌++◌,
  length,
  map,
  get_or,
  ◌⊎◌,
  ⊎_elim,
  sym,
  subst,
  ap,
  ◌∙◌,
  arith,
  All,
  refl,
}
use Rattle.std.proofs.lemmas.Bool.{cases_lt, cases_Bool, leb-true, false≢true}
use Rattle.std.proofs.lemmas.List.Elements.{All-push, All-get_or, All-head, All-tail, All-cons, All-contains}
use Rattle.std.proofs.lemmas.List.{map-append, take_more, length-map, get_or-map}
use Rattle.ygg_cnf.specs.declared.lit.Lit.{Lit}
use Rattle.ygg_cnf.specs.declared.log.Step.{Step}
use Rattle.ygg_cnf.specs.declared.log.Step.TheVariants.{Added}
use Rattle.ygg_solver.proofs.of_ygg_cnf.Lits.{same_lit}
use Rattle.ygg_cnf.specs.Literals.{truth_of, SatisfiesClause, SatisfiesAll}
use Rattle.ygg_cnf.specs.Logs.{clause_of, Refutes, SpentLog}
use Rattle.ygg_chain.specs.Places.{IsDistinct, IsPlaced, literal_at, clause_at, clauses_at}
use Rattle.ygg_chain.proofs.PlaceLemmas.{kept_more, stands_once, contains_map}
use Rattle.ygg_solver.specs.Names.{log_at, GivesValues}
use Rattle.ygg_watch.specs.declared.entry.Entry.{Entry}
use Rattle.ygg_watch.specs.Trail.{IsAt}
use Rattle.ygg_watch.specs.Assignments.{IsTrail}
use Rattle.ygg_solver.proofs.ModelLemmas.{value_more}
use Rattle.ygg_solver.proofs.RenameLemmas.{IsRenaming, renamed_step, refutes_renamed, spent_renamed}

-- the sum of the variables, which none of them is above
abbrev pub total : List ℕ → ℕ
total [] = 0
total (v ∷ variables) = v + total variables

-- the variable of a place, and past the end a number above all of them
abbrev pub new_name : List ℕ → ℕ → ℕ
new_name variables v = cond (leb (length variables) v) (v + 1 + total variables) (get_or variables v 0)

abbrev pub renamed : List ℕ → Lit → Lit
renamed variables x = record { var = new_name variables x.var; negated = x.negated }

at_total : (variables : List ℕ) (i : ℕ) → get_or variables i 0 ≤ total variables
at_total [] i = let e : ◌≡◌ {A = ℕ} (get_or [] i 0) 0 = refl in omega (arith, e)
at_total (v ∷ variables) zero = let e : ◌≡◌ {A = ℕ} (get_or (v ∷ variables) 0 0) v = refl in omega (arith, e)
at_total (v ∷ variables) (suc i) = let r = at_total variables i in let e : ◌≡◌ {A = ℕ} (get_or (v ∷ variables) (suc i) 0) (get_or variables i 0) =
    refl in omega (arith, r, e)

is_past : (m n : ℕ) → m ≤ n → leb m n ≡ true
is_past m n l = grind arith

not_past : (m n : ℕ) → n < m → leb m n ≡ false
not_past m n l = ⊎_elim (λ t. absurd (let k = leb-true m n t in omega (arith, k, l))) (λ f. f) (cases_Bool (leb m n))

name_within : (variables : List ℕ) (v : ℕ) → v < length variables → new_name variables v ≡ get_or variables v 0
name_within variables v l = rw (not_past (length variables) v l) refl

name_past : (variables : List ℕ) (v : ℕ) → length variables ≤ v → new_name variables v ≡ v + 1 + total variables
name_past variables v l = rw (is_past (length variables) v l) refl

placed_same : (variables : List ℕ) (x : Lit) → IsPlaced variables x → renamed variables x ≡ literal_at variables x
placed_same variables x l = same_lit (renamed variables x) (literal_at variables x) (name_within variables x.var l) refl

once_placed : (variables : List ℕ) → IsDistinct variables → (x y : Lit) → IsPlaced variables x → IsPlaced variables y →
    renamed variables x ≡ renamed variables y → x ≡ y
once_placed variables distinct x y l m e =
    stands_once variables distinct x y (literal_at variables y)
    (l, sym (placed_same variables x l) ∙ (e ∙ placed_same variables y m)) (m, refl)

apart : (variables : List ℕ) (v w : ℕ) → v < length variables → length variables ≤ w → new_name variables v ≡ new_name variables w → ⊥
apart variables v w l g e =
    let a = name_within variables v l in let b = name_past variables w g in let s = at_total variables v in omega (arith, a, b, s, e)

pub is_renaming : (variables : List ℕ) → IsDistinct variables → IsRenaming (renamed variables)
is_renaming variables distinct = record {
  once = λ x y e.
      let v : new_name variables x.var ≡ new_name variables y.var = ap (λ (z : Lit). z.var) e in
      ⊎_elim
      (λ l. ⊎_elim (λ m. once_placed variables distinct x y l m e) (λ g. absurd (apart variables x.var y.var l g v)) (cases_lt y.var (length variables)))
      (λ g. ⊎_elim (λ m. absurd (apart variables y.var x.var m g (sym v)))
      (λ h. let a = name_past variables x.var g in let b = name_past variables y.var h in
      same_lit x y (omega (arith, a, b, v)) (ap (λ (z : Lit). z.negated) e)) (cases_lt y.var (length variables)))
      (cases_lt x.var (length variables));
  turns = λ x. refl;
}

-- on places the renaming is by the variables
clause_same : (variables : List ℕ) (clause : List Lit) → All (IsPlaced variables) clause → map (renamed variables) clause ≡ clause_at variables clause
clause_same variables [] a = refl
clause_same variables (x ∷ xs) a =
    rw (placed_same variables x (All-head (IsPlaced variables) x xs a), clause_same variables xs (All-tail (IsPlaced variables) x xs a)) refl

clauses_same : (variables : List ℕ) (clauses : List (List Lit)) → All (All (IsPlaced variables)) clauses →
    map (map (renamed variables)) clauses ≡ clauses_at variables clauses
clauses_same variables [] a = refl
clauses_same variables (c ∷ cs) a =
    rw (clause_same variables c (All-head (All (IsPlaced variables)) c cs a), clauses_same variables cs (All-tail (All (IsPlaced variables)) c cs a)) refl

log_same : (variables : List ℕ) (log : List Step) → All (All (IsPlaced variables)) (map clause_of log) →
    map (renamed_step (renamed variables)) log ≡ log_at variables log
log_same variables [] a = refl
log_same variables (Added clause chain ∷ log) a =
    rw (
      clause_same variables clause (All-head (All (IsPlaced variables)) clause (map clause_of log) a),
      log_same variables log (All-tail (All (IsPlaced variables)) clause (map clause_of log) a),
    ) refl

pub refutes_named : (variables : List ℕ) → IsDistinct variables → (clauses : List (List Lit)) (log : List Step) → All (All (IsPlaced variables)) clauses
    → All (All (IsPlaced variables)) (map clause_of log) → Refutes clauses log → Refutes (clauses_at variables clauses) (log_at variables log)
refutes_named variables distinct clauses log a b f =
    subst (λ (l : List Step). Refutes (clauses_at variables clauses) l) (log_same variables log b)
    (subst (λ (c : List (List Lit)). Refutes c (map (renamed_step (renamed variables)) log)) (clauses_same variables clauses a)
    (refutes_renamed (renamed variables) (is_renaming variables distinct) clauses log f))

pub spent_named : (variables : List ℕ) → IsDistinct variables → (clauses : List (List Lit)) (log : List Step) (budget : ℕ) →
    All (All (IsPlaced variables)) clauses
    → All (All (IsPlaced variables)) (map clause_of log) → SpentLog clauses log budget → SpentLog (clauses_at variables clauses) (log_at variables log) budget
spent_named variables distinct clauses log budget a b s =
    subst (λ (l : List Step). SpentLog (clauses_at variables clauses) l budget) (log_same variables log b)
    (subst (λ (c : List (List Lit)). SpentLog c (map (renamed_step (renamed variables)) log) budget) (clauses_same variables clauses a)
    (spent_renamed (renamed variables) (is_renaming variables distinct) clauses log budget s))

-- values by place and values by variable satisfy the same
clause_satisfied : (variables : List ℕ) (f g : ℕ → Bool) →
    ((v : ℕ) → v < length variables → 0 < get_or variables v 0 → g (get_or variables v 0) ≡ f v) → (clause : List Lit) → All (IsPlaced variables) clause
    → All (λ (x : Lit). 0 < x.var) (clause_at variables clause) → SatisfiesClause f clause → SatisfiesClause g (clause_at variables clause)
clause_satisfied variables f g e clause a n (k, x, l, at, s) =
    let c = contains_map (literal_at variables) clause x (k, l, at) in
    let named = All-contains (λ (y : Lit). 0 < y.var) (clause_at variables clause) (literal_at variables x) n c in
    (c.0, literal_at variables x, c.1, c.2, e x.var (All-contains (IsPlaced variables) clause x a (k, l, at)) named ∙ s)

pub satisfied_named : (variables : List ℕ) (f g : ℕ → Bool) →
    ((v : ℕ) → v < length variables → 0 < get_or variables v 0 → g (get_or variables v 0) ≡ f v) → (clauses : List (List Lit)) →
    All (All (IsPlaced variables)) clauses
    → All (All (λ (x : Lit). 0 < x.var)) (clauses_at variables clauses) → SatisfiesAll f clauses → SatisfiesAll g (clauses_at variables clauses)
satisfied_named variables f g e [] a n s = λ k d l. absurd (omega (arith, l))
satisfied_named variables f g e (c ∷ cs) a n s =
    All-cons (SatisfiesClause g) (clause_at variables c) (clauses_at variables cs)
    (clause_satisfied variables f g e c (All-head (All (IsPlaced variables)) c cs a)
    (All-head (All (λ (x : Lit). 0 < x.var)) (clause_at variables c) (clauses_at variables cs) n) (All-head (SatisfiesClause f) c cs s))
    (satisfied_named variables f g e cs (All-tail (All (IsPlaced variables)) c cs a)
    (All-tail (All (λ (x : Lit). 0 < x.var)) (clause_at variables c) (clauses_at variables cs) n) (All-tail (SatisfiesClause f) c cs s))

-- clauses of places with one more
pub numbered_more : (variables after more : List ℕ) → after ≡ variables ++ more → (kept clauses : List (List Lit)) (i : ℕ) (given new : List Lit) →
    i < length clauses
    → All (All (IsPlaced variables)) kept → clauses_at variables kept ≡ take i clauses → given ≡ get_or clauses i given
    → All (IsPlaced after) new → clause_at after new ≡ given
    → All (All (IsPlaced after)) (kept ++ new ∷ []) × (clauses_at after (kept ++ new ∷ []) ≡ take (i + 1) clauses)
numbered_more variables after more grows kept clauses i given new l placed same at here is =
    let (stay, names) = kept_more variables after more grows kept placed in (
      All-push (All (IsPlaced after)) kept new stay here,
      map-append (clause_at after) kept (new ∷ []) ∙ (ap (λ l. l ++ clause_at after new ∷ []) (names ∙ same)
          ∙ (ap (λ x. take i clauses ++ x ∷ []) (is ∙ at) ∙ sym (take_more clauses i given l))),
    )

-- an entry's clause is among those of its log
pub placed_entry : (P : List Lit → Type 0) (log : List Step) (i : ℕ) (step : Step) → All P (map clause_of log) → i < length log →
    step ≡ get_or log i step → P (clause_of step)
placed_entry P log i step a l at =
    let size : length (map clause_of log) ≡ length log = length-map log clause_of in
    subst P (get_or-map clause_of log i step (clause_of step) l ∙ ap clause_of (sym at))
    (All-get_or P (map clause_of log) i (clause_of step) (omega (arith, l, size)) a)

-- one more entry's value is given
module _ (variables : List ℕ) (distinct : IsDistinct variables) (trail : List Entry) (is : IsTrail trail (length variables)) where
  apart_names : (v w : ℕ) → v < length variables → w < length variables → v ≢ w → get_or variables v 0 ≢ get_or variables w 0
  apart_names v w l m d e =
      ⊎_elim (λ k. distinct v w 0 k m e) (λ g. distinct w v 0 (let n : v ≢ w = d in omega (arith, g, n)) l (sym e)) (cases_lt v w)

  -- where nothing is written, since the literal is negated or its variable is none
  pub values_kept : (i : ℕ) (e : Entry) (values : List Bool) → IsAt trail i e → GivesValues variables (take i trail) values
      → (e.lit.negated ≡ true) ⊎ (get_or variables e.lit.var 0 ≡ 0) → GivesValues variables (take (i + 1) trail) values
  values_kept i e values at was none place l positive =
      ⊎_elim (λ a. was place l positive ∙ sym a.1)
      (λ b. ⊎_elim (λ n. was place l positive ∙ (b.1.1 ∙ (ap not (sym n) ∙ sym b.1.0)))
      (λ z. absurd (let same : get_or variables e.lit.var 0 ≡ get_or variables place 0 = ap (λ v. get_or variables v 0) b.0 in
      omega (arith, z, same, positive))) none)
      (value_more trail i e at is.distinct place)

  pub values_set : (i : ℕ) (e : Entry) (values after : List Bool) (variable : ℕ) → IsAt trail i e → GivesValues variables (take i trail) values
      → e.lit.negated ≡ false → variable ≡ get_or variables e.lit.var 0 → truth_of after variable ≡ true
      → ((v : ℕ) → v ≢ variable → truth_of after v ≡ truth_of values v) → GivesValues variables (take (i + 1) trail) after
  values_set i e values after variable at was n name here others place l positive =
      ⊎_elim
      (λ a. others (get_or variables place 0) (λ q. apart_names place e.lit.var l (is.within i e at) (λ s. a.0 (sym s)) (q ∙ name))
      ∙ (was place l positive ∙ sym a.1))
      (λ b. ap (truth_of after) (ap (λ v. get_or variables v 0) (sym b.0) ∙ sym name) ∙ (here ∙ (ap not (sym n) ∙ sym b.1.0)))
      (value_more trail i e at is.distinct place)

pub not_true : (b : Bool) → not b ≡ true → b ≡ false
not_true true e = absurd (false≢true e)
not_true false e = refl

pub not_false : (b : Bool) → not b ≡ false → b ≡ true
not_false true e = refl
not_false false e = absurd (false≢true (sym e))
