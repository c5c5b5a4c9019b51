-- Visits from a term down to the nodes that it reaches.
use Rattle.std.proofs.Common.{
  ◌≡◌,
  ◌≢◌,
  ◌<◌,
  ◌≤◌,
  ℕ,
  ◌+◌,
  ◌==◌,
  ◌||◌,
  ◌&&◌,
  not,
  Bool,
  true,
  false,
  Some,
  List,
  [],
  ◌∷◌,
  ◌++◌,
  reverse,
  slice_get,
  ◌↔◌,
  ⊎_elim,
  refl,
  sym,
  subst,
  ap,
  ◌∙◌,
  arith,
}
use Rattle.std.proofs.lemmas.Bool.{false≢true, eq-eqb, or_cases, or_left, or_right, and_from, and_parts}
use Rattle.std.proofs.lemmas.Bool.Decides.{Decides-eqb}
use Rattle.std.proofs.lemmas.List.{reverse-append}
use Rattle.std.specs.List.{list_any}
use Rattle.std.specs.Ordering.{nat_cmp}
use Rattle.std.specs.BTreeMap.{is_at}
use Rattle.std.specs.BTreeSet.{BTreeSet}
use Rattle.ygg_bank.proofs.Children.{child_below}
use Rattle.ygg_bank.specs.Nodes.{IsBank}
use Rattle.ygg_bank.specs.Pending.{has}
use Rattle.ygg_bank.specs.Reaching.{has_child, has_place, AllFrom, AllBelow, Ascends, Reaches}
use Rattle.ygg_bank.specs.Reaching.Reaches.{itself, child}
use Rattle.ygg_bank.specs.declared.node.Id.{Id}
use Rattle.ygg_bank.specs.declared.node.Node.{Node}

from_more : (n m : ℕ) (ks : List ℕ) → m ≤ n → AllFrom n ks → AllFrom m ks
from_more n m [] l h = tt
from_more n m (k ∷ ks) l h = ((let q = h.0 in omega (arith, q, l)), from_more n m ks l h.1)

-- What is known when all places from one on are visited: the pending ones are below it; what is pending or visited is reached, the term's own place
-- is, and so are
-- the children of what is visited.
pub record Visiting (nodes : List Node) (term : Id) (below : ℕ) (pending : BTreeSet ℕ) (visited : List ℕ) : Type 0 where
  pub within : below ≤ term.0 + 1
  pub low : (p : ℕ) → has pending p ≡ true → p < below
  pub high : AllFrom below visited
  pub ascends : Ascends visited
  pub under : AllBelow (term.0 + 1) visited
  pub sound : (p : ℕ) → (has pending p || has_place visited p) ≡ true → Reaches nodes term.0 p
  pub first : (has pending term.0 || has_place visited term.0) ≡ true
  pub closed : (k : ℕ) (n : Node) (p : ℕ) → has_place visited k ≡ true → slice_get nodes k ≡ Some n → has_child n p ≡ true →
      (has pending p || has_place visited p) ≡ true

pub begins : (nodes : List Node) (term : Id) (old pending : BTreeSet ℕ) → ((p : ℕ) → has old p ≡ false) →
    ((p : ℕ) → has pending p ≡ (has old p || term.0 == p)) → Visiting nodes term (term.0 + 1) pending []
begins nodes term old pending none one = record {
  within = omega arith;
  low = λ p h. let s : term.0 ≡ p = (Decides-eqb term.0 p).0 (own p h) in omega arith;
  high = tt;
  ascends = tt;
  under = tt;
  sound = λ p h. let s : term.0 ≡ p = (Decides-eqb term.0 p).0 (own p (single (has pending p) h)) in subst (Reaches nodes term.0) s itself;
  first = or_left (has pending term.0) false (one term.0 ∙ or_right (has old term.0) (term.0 == term.0) (eq-eqb term.0 term.0 refl));
  closed = λ k n p h e c. absurd (false≢true h);
} where
  single : (b : Bool) → (b || false) ≡ true → b ≡ true
  single true h = refl
  single false h = absurd (false≢true h)

  own : (p : ℕ) → has pending p ≡ true → (term.0 == p) ≡ true
  own p h = ⊎_elim (λ (e : has old p ≡ true). absurd (false≢true (sym (none p) ∙ e))) (λ (e : (term.0 == p) ≡ true). e)
      (or_cases (has old p) (term.0 == p) (sym (one p) ∙ h))

same_or_not : (k p : ℕ) (b : Bool) → b ≡ true → (P : Type 0) → (k ≡ p → P) → ((b && not (k == p)) ≡ true → P) → P
same_or_not k p b h P yes_same otherwise =
    go (k == p) refl where
      go : (t : Bool) → (k == p) ≡ t → P
      go true e = yes_same ((Decides-eqb k p).0 e)
      go false e = otherwise (and_from b (not (k == p)) h (ap not e))

module _ (nodes : List Node) (term : Id) (below k : ℕ) (old taken pending : BTreeSet ℕ) (visited : List ℕ) (n : Node)
    (bank : IsBank nodes) (at : slice_get nodes k ≡ Some n) (here : has old k ≡ true) (last : (p : ℕ) → has old p ≡ true → p ≤ k)
    (others : (p : ℕ) → has taken p ≡ (has old p && not (k == p))) (more : (p : ℕ) → has pending p ≡ (has taken p || has_child n p))
    (v : Visiting nodes term below old visited) where
  is_reached : Reaches nodes term.0 k
  is_reached = v.sound k (or_left (has old k) (has_place visited k) here)

  -- a pending place was pending, or is a child's
  cases : (p : ℕ) → has pending p ≡ true → (P : Type 0) → (has old p ≡ true → (k == p) ≡ false → P) → (has_child n p ≡ true → P) → P
  cases p h P was is =
      ⊎_elim (λ (e : has taken p ≡ true). let f = sym (others p) ∙ e in
      was (and_parts (has old p) (not (k == p)) f).0 (turned (k == p) (and_parts (has old p) (not (k == p)) f).1))
      (λ (e : has_child n p ≡ true). is e) (or_cases (has taken p) (has_child n p) (sym (more p) ∙ h)) where
        turned : (b : Bool) → not b ≡ true → b ≡ false
        turned true e = absurd (false≢true e)
        turned false e = refl

  still : (p : ℕ) → (has old p || has_place visited p) ≡ true → (has pending p || has_place (k ∷ visited) p) ≡ true
  still p h =
      ⊎_elim
      (λ (e : has old p ≡ true).
      same_or_not k p (has old p) e ((has pending p || has_place (k ∷ visited) p) ≡ true)
      (λ s. or_right (has pending p) (has_place (k ∷ visited) p) (or_left (k == p) (has_place visited p) (eq-eqb k p s)))
      (λ f. or_left (has pending p) (has_place (k ∷ visited) p) (more p ∙ or_left (has taken p) (has_child n p) (others p ∙ f))))
      (λ (e : has_place visited p ≡ true). or_right (has pending p) (has_place (k ∷ visited) p) (or_right (k == p) (has_place visited p) e))
      (or_cases (has old p) (has_place visited p) h)

  pub goes : Visiting nodes term k pending (k ∷ visited)
  goes =
      let l = v.low k here in
      let w = v.within in
      record {
        within = omega (arith, l, w);
        low = λ p h. cases p h (p < k) (λ was apart. let m = last p was in let d : k ≢ p = λ s. absurd (false≢true (sym apart ∙ eq-eqb k p s)) in
            omega (arith, m, d)) (λ is. child_below nodes k n p bank.ordered at is);
        high = (omega arith, from_more below k visited (omega (arith, l)) v.high);
        ascends = (from_more below (k + 1) visited (omega (arith, l)) v.high, v.ascends);
        under = (omega (arith, l, w), v.under);
        sound = λ p h.
            ⊎_elim
            (λ (e : has pending p ≡ true).
            cases p e (Reaches nodes term.0 p) (λ was apart. v.sound p (or_left (has old p) (has_place visited p) was)) (λ is. child k n p is_reached at is))
            (λ (e : has_place (k ∷ visited) p ≡ true).
            ⊎_elim (λ (f : (k == p) ≡ true). let s : k ≡ p = (Decides-eqb k p).0 f in subst (Reaches nodes term.0) s is_reached)
            (λ (f : has_place visited p ≡ true). v.sound p (or_right (has old p) (has_place visited p) f)) (or_cases (k == p) (has_place visited p) e))
            (or_cases (has pending p) (has_place (k ∷ visited) p) h);
        first = still term.0 v.first;
        closed = λ j m p h e c.
            ⊎_elim
            (λ (f : (k == j) ≡ true).
            let s : k ≡ j = (Decides-eqb k j).0 f in
            let both : Some n ≡ Some m = sym at ∙ ap (slice_get nodes) s ∙ e in
            let same : n ≡ m = cc in
            or_left (has pending p) (has_place (k ∷ visited) p) (more p ∙ or_right (has taken p) (has_child n p) (ap (λ z. has_child z p) same ∙ c)))
            (λ (f : has_place visited j ≡ true). still p (v.closed j m p f e c))
            (or_cases (k == j) (has_place visited j) h);
      }

-- where nothing is pending any more, just what is reached is visited
pub visited_all : (nodes : List Node) (term : Id) (below : ℕ) (pending : BTreeSet ℕ) (visited : List ℕ) →
    ((p : ℕ) → has pending p ≡ false) →
    Visiting nodes term below pending visited → (p : ℕ) → (has_place visited p ≡ true) ↔ Reaches nodes term.0 p
visited_all nodes term below pending visited none v p =
    (λ h. v.sound p (or_right (has pending p) (has_place visited p) h), all p) where
      settled : (q : ℕ) → (has pending q || has_place visited q) ≡ true → has_place visited q ≡ true
      settled q h = ⊎_elim (λ (e : has pending q ≡ true). absurd (false≢true (sym (none q) ∙ e))) (λ (e : has_place visited q ≡ true). e)
          (or_cases (has pending q) (has_place visited q) h)

      all : (q : ℕ) → Reaches nodes term.0 q → has_place visited q ≡ true
      all q itself = settled term.0 v.first
      all q (child k n s r at c) = settled s (v.closed k n s (all k r) at c)

-- the same of a list in the other order
pub begins_with : (nodes : List Node) (term : Id) (old pending : BTreeSet ℕ) (places : List ℕ) → old.keys ≡ [] →
    ((p : ℕ) → has pending p ≡ (has old p || term.0 == p)) → places ≡ [] →
    Visiting nodes term (term.0 + 1) pending (reverse places)
begins_with nodes term old pending places empty one e =
    subst (λ z. Visiting nodes term (term.0 + 1) pending (reverse z)) (sym e)
    (begins nodes term old pending (λ p. ap (λ z. list_any (is_at (nat_cmp p)) z) empty) one)

pub goes_with : (nodes : List Node) (term : Id) (k : ℕ) (pending : BTreeSet ℕ) (old new : List ℕ) → new ≡ old ++ k ∷ [] →
    Visiting nodes term k pending (k ∷ reverse old) → Visiting nodes term k pending (reverse new)
goes_with nodes term k pending old new e v = subst (Visiting nodes term k pending) (sym (ap reverse e ∙ reverse-append old (k ∷ []))) v
