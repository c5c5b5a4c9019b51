-- A clause that is false but for one literal of the last level teaches.
use Rattle.std.proofs.Common.{
  ◌≡◌,
  ◌≢◌,
  ℕ,
  zero,
  suc,
  ◌<◌,
  ◌≤◌,
  List,
  [],
  ◌∷◌,
  ◌++◌,
  length,
  Contains,
  ⊎_elim,
  sym,
  subst,
  ap,
  ◌∙◌,
  Some,
  arith,
  slice_get,
  All,
  refl,
  Bool,
}
use Rattle.std.proofs.lemmas.Bool.{cases_lt}
use Rattle.std.proofs.lemmas.List.Elements.{All-head, All-tail}
use Rattle.std.proofs.lemmas.Option.{same_Some}
use Rattle.ygg_cnf_set.specs.LiteralSet.{InSet}
use Rattle.ygg_cnf.proofs.Lits.{complement_twice}
use Rattle.ygg_cnf.specs.Derivations.{HasClause}
use Rattle.ygg_cnf.specs.Literals.{complement}
use Rattle.ygg_cnf.specs.Logs.{IsOpen, TeachesAt}
use Rattle.ygg_cnf.specs.declared.lit.Lit.{Lit}
use Rattle.ygg_solver.proofs.LearnLemmas.{not_both}
use Rattle.ygg_solver.specs.Learning.{IsSound, IsAsserting, IsSeenAt}
use Rattle.ygg_watch.proofs.TrailLemmas.{assigned_at, false_before, in_before}
use Rattle.ygg_watch.specs.Trail.{IsAt, IsFalseBefore, assigned_before, IsQuietBefore}
use Rattle.ygg_watch.specs.declared.entry.Entry.{Entry}

-- no literal of the variable of a later place is assigned before
not_before : (clauses : List (List Lit)) (trail : List Entry) (at start : ℕ) (entry : Entry) (x : Lit) → IsSound clauses trail
    → IsAt trail at entry → start ≤ at → entry.lit.var ≡ x.var → Contains (assigned_before trail start) x → ⊥
not_before clauses trail at start entry x s h le v c =
    let (q, (e, (l, (k, same)))) = assigned_at trail start x c in
    let p : q ≡ at = s.distinct q at e entry k h (ap (λ (z : Lit). z.var) same ∙ sym v) in omega arith

pub teaches_at : (clauses : List (List Lit)) (trail : List Entry) (at start : ℕ) (entry : Entry) (clause : List Lit) → IsSound clauses trail
    → IsAt trail at entry → start ≤ at
    → IsQuietBefore clauses trail start
    → Contains clause (complement entry.lit)
    → ((y : Lit) → Contains clause y → y ≢ complement entry.lit → IsFalseBefore trail start y)
    → TeachesAt clauses clause (assigned_before trail start) (complement entry.lit)
teaches_at clauses trail at start entry clause s h le quiet here others = record {
  consistent = λ y c d. not_both clauses trail start start y s
      (false_before trail start y d) (false_before trail start (complement y) (subst (Contains (assigned_before trail start)) (sym (complement_twice y)) c));
  here = here;
  others = λ y c n. in_before trail start y (others y c n);
  undecided = (
    not_before clauses trail at start entry (complement entry.lit) s h le refl,
    not_before clauses trail at start entry (complement (complement entry.lit)) s h le refl,
  );
  opens = quiet;
}

all_got : (Q : List Lit → Type 0) (clauses : List (List Lit)) (i : ℕ) (clause : List Lit) → All Q clauses → slice_get clauses i ≡ Some clause → Q clause
all_got Q [] i clause a h = cc
all_got Q (c ∷ cs) zero clause a h = subst Q (same_Some c clause h) (All-head Q c cs a)
all_got Q (c ∷ cs) (suc i) clause a h = all_got Q cs i clause (All-tail Q c cs a) h

pub numbered_all : (Q : List Lit → Type 0) (clauses : List (List Lit)) (id : ℕ) (clause : List Lit) → All Q clauses → HasClause clauses id clause → Q clause
numbered_all Q clauses zero clause a h = absurd h
numbered_all Q clauses (suc i) clause a h = all_got Q clauses i clause a h

from_false : (seen : List Bool) (trail : List Entry) (start : ℕ) (x : Lit) → InSet seen x
    → (Contains (assigned_before trail start) (complement x) → ⊥) → IsFalseBefore trail (length trail) x
    → (q : ℕ) × ((start ≤ q) × IsSeenAt seen trail q)
from_false seen trail start x m n (q, (e, (l, (h, same)))) = (
  q,
  (
    ⊎_elim (λ b. absurd (n (in_before trail start x (q, (e, (b, (h, same))))))) (λ g. g) (cases_lt q start),
    (e, (h, subst (InSet seen) (sym (complement_twice x) ∙ ap complement (sym same)) m)),
  ),
)

-- a false clause that was open before a place has a literal that is false from there on
pub conflict_from : (clauses : List (List Lit)) (seen : List Bool) (trail : List Entry) (start : ℕ) (clause : List Lit) → IsSound clauses trail
    → IsOpen (assigned_before trail start) clause
    → ((y : Lit) → Contains clause y → IsFalseBefore trail (length trail) y)
    → ((y : Lit) → Contains clause y → InSet seen y)
    → (q : ℕ) × ((start ≤ q) × IsSeenAt seen trail q)
conflict_from clauses seen trail start clause s o falses is_seen =
    ⊎_elim
    (λ (k, x, l, e, t). absurd (not_both clauses trail (length trail) start x s (falses x (k, l, e))
    (false_before trail start (complement x) (subst (Contains (assigned_before trail start)) (sym (complement_twice x)) t))))
    (λ (x, (y, (cx, cy, d, nx, ny))). from_false seen trail start x (is_seen x cx) nx (falses x cx))
    o

pub first_number : (none one : List ℕ) (id : ℕ) → none ≡ [] → one ≡ none ++ id ∷ [] → one ≡ id ∷ []
first_number none one id e f = rw e at f

pub append-nil : (xs : List ℕ) → xs ++ [] ≡ xs
append-nil [] = refl
append-nil (x ∷ xs) = ap (λ l. x ∷ l) (append-nil xs)

-- two seen places, one from the start on and one before it
pub asserting : (clauses : List (List Lit)) (trail : List Entry) (seen : List Bool) (clause : List Lit) (at first start level : ℕ) (entry other : Entry)
    → IsSound clauses trail → IsAt trail at entry → start ≤ at → IsAt trail first other → first < start
    → InSet seen (complement entry.lit) → InSet seen (complement other.lit) → ((y : Lit) → InSet seen y → Contains clause y)
    → other.level ≡ level → IsAsserting trail clause start level
asserting clauses trail seen clause at first start level entry other s h le k l m n has same = record {
  one = complement entry.lit;
  two = complement other.lit;
  at = at;
  first = first;
  entry = entry;
  other = other;
  at_is = h;
  one_is = sym (complement_twice entry.lit);
  first_is = k;
  two_is = sym (complement_twice other.lit);
  here = has (complement entry.lit) m;
  there = has (complement other.lit) n;
  differ = λ e. let p : at ≡ first = s.distinct at first entry other h k (ap (λ (z : Lit). z.var) e) in omega arith;
  after = le;
  same = same;
}
