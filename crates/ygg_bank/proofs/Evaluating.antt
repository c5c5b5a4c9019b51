-- The values of what a term reaches, one place after another.
use Rattle.std.proofs.Common.{
  ◌≡◌,
  ◌≢◌,
  ◌<◌,
  ◌≤◌,
  ℕ,
  zero,
  suc,
  ◌+◌,
  ◌==◌,
  ◌||◌,
  true,
  false,
  Option,
  Some,
  List,
  [],
  ◌∷◌,
  take,
  take_all,
  length,
  add-one,
  slice_get,
  ◌↔◌,
  ⊎_elim,
  sym,
  ap,
  subst,
  ◌∙◌,
  arith,
  refl,
}
use Rattle.std.proofs.lemmas.Bool.{false≢true, cases_eq, eq-eqb, ne_eqb, or_cases, or_left, or_right}
use Rattle.std.proofs.lemmas.Bool.Decides.{Decides-eqb}
use Rattle.ygg_value.specs.Number.{Number}
use Rattle.ygg_bank.proofs.Children.{child_below}
use Rattle.ygg_bank.specs.Nodes.{InOrder}
use Rattle.ygg_bank.specs.Reaching.{has_place, AllFrom, AllBelow, Ascends, Reaches}
use Rattle.ygg_bank.specs.Reaching.Reaches.{itself, child}
use Rattle.ygg_bank.specs.Values.{Inputs, given_for, inputs_of, numbers_given, value_of, KnowsChildren}
use Rattle.ygg_bank.specs.declared.env.Given.{Given}
use Rattle.ygg_bank.specs.declared.node.Node.{Node}

-- the values of the nodes at these places are known
abbrev pub Evaluated : Inputs → List Node → List ℕ → (ℕ → Option Number) → Type 0
Evaluated inputs nodes places known = (p : ℕ) → has_place places p ≡ true → known p ≡ Some (value_of inputs nodes p)

none_below : (m : ℕ) (ks : List ℕ) (p : ℕ) → AllFrom m ks → p < m → has_place ks p ≡ false
none_below m [] p h l = refl
none_below m (k ∷ ks) p h l =
    let q = h.0 in
    let apart : k ≢ p = omega (arith, q, l) in
    ap (λ b. b || has_place ks p) (ne_eqb k p apart) ∙ none_below m ks p h.1 l

-- where places ascend, those below the one at an index stand before it
earlier : (ks : List ℕ) (i k p : ℕ) → Ascends ks → slice_get ks i ≡ Some k → p < k → has_place ks p ≡ true → has_place (take i ks) p ≡ true
earlier [] i k p a e l h = absurd (false≢true h)
earlier (x ∷ ks) zero k p a e l h =
    let same : x ≡ k = cc in
    let apart : x ≢ p = omega (arith, same, l) in
    absurd (false≢true (sym (ap (λ b. b || has_place ks p) (ne_eqb x p apart) ∙ none_below (x + 1) ks p a.0 (omega (arith, same, l))) ∙ h))
earlier (x ∷ ks) (suc i) k p a e l h =
    ⊎_elim (λ (f : (x == p) ≡ true). or_left (x == p) (has_place (take i ks) p) f)
    (λ (f : has_place ks p ≡ true). or_right (x == p) (has_place (take i ks) p) (earlier ks i k p a.1 e l f)) (or_cases (x == p) (has_place ks p) h)

-- the place at an index is among the places
here_is : (ks : List ℕ) (i k : ℕ) → slice_get ks i ≡ Some k → has_place ks k ≡ true
here_is [] i k e = absurd (cc)
here_is (x ∷ ks) zero k e = let same : x ≡ k = cc in or_left (x == k) (has_place ks k) (eq-eqb x k same)
here_is (x ∷ ks) (suc i) k e = or_right (x == k) (has_place ks k) (here_is ks i k e)

-- the values of a place's children are known, where those of the places before it are
pub children_known : (inputs : Inputs) (nodes : List Node) (term : ℕ) (places : List ℕ) (i k : ℕ) (known : ℕ → Option Number) → InOrder [] nodes →
    Ascends places → ((p : ℕ) → (has_place places p ≡ true) ↔ Reaches nodes term p) → slice_get places i ≡ Some k →
    Evaluated inputs nodes (take i places) known → KnowsChildren inputs nodes k known
children_known inputs nodes term places i k known ordered ascends each here v n p at c =
    let reached = (each p).1 (child k n p ((each k).0 (here_is places i k here)) at c) in
    v p (earlier places i k p ascends here (child_below nodes k n p ordered at c) reached)

-- a place among one more of the places is one of the first, or the next
one_more : (ks : List ℕ) (i k p : ℕ) → slice_get ks i ≡ Some k → has_place (take (suc i) ks) p ≡ true → (k ≢ p → has_place (take i ks) p ≡ true)
one_more [] i k p e h d = absurd (cc)
one_more (x ∷ ks) zero k p e h d =
    let same : x ≡ k = cc in
    ⊎_elim (λ (f : (x == p) ≡ true). absurd (d (sym same ∙ (Decides-eqb x p).0 f))) (λ (f : has_place [] p ≡ true). absurd (false≢true f))
    (or_cases (x == p) (has_place [] p) h)
one_more (x ∷ ks) (suc i) k p e h d =
    ⊎_elim (λ (f : (x == p) ≡ true). or_left (x == p) (has_place (take i ks) p) f)
    (λ (f : has_place (take (suc i) ks) p ≡ true). or_right (x == p) (has_place (take i ks) p) (one_more ks i k p e f d))
    (or_cases (x == p) (has_place (take (suc i) ks) p) h)

-- one more place's value is known
pub one_more_known : (inputs : Inputs) (nodes : List Node) (places : List ℕ) (i k : ℕ) (old new : ℕ → Option Number) (x : Number) →
    slice_get places i ≡ Some k → x ≡ value_of inputs nodes k → new k ≡ Some x → ((p : ℕ) → (k == p) ≡ false → new p ≡ old p) →
    Evaluated inputs nodes (take i places) old → Evaluated inputs nodes (take (i + 1) places) new
one_more_known inputs nodes places i k old new x here is at others v p h =
    ⊎_elim (λ (same : k ≡ p). subst (λ q. new q ≡ Some (value_of inputs nodes q)) same (at ∙ ap Some is))
    (λ (apart : k ≡ p → ⊥). others p (ne_eqb k p apart) ∙ v p (one_more places i k p here (rw (← add-one i) h) apart)) (cases_eq k p)

-- no place's value is known yet
pub none_known : (inputs : Inputs) (nodes : List Node) (places : List ℕ) (known : ℕ → Option Number) → Evaluated inputs nodes (take 0 places) known
none_known inputs nodes [] known p h = absurd (false≢true h)
none_known inputs nodes (x ∷ xs) known p h = absurd (false≢true h)

-- all values are known, that of the term too
pub term_known : (inputs : Inputs) (nodes : List Node) (term : ℕ) (places : List ℕ) (i : ℕ) (known : ℕ → Option Number) →
    ((p : ℕ) → (has_place places p ≡ true) ↔ Reaches nodes term p) → length places ≤ i → Evaluated inputs nodes (take i places) known →
    known term ≡ Some (value_of inputs nodes term)
term_known inputs nodes term places i known each l v =
    v term (subst (λ ks. has_place ks term ≡ true) (sym (take_all i places l)) ((each term).1 itself))

-- a place that a list has is below what all its places are below
pub place_below : (most : ℕ) (ks : List ℕ) (i k : ℕ) → AllBelow most ks → slice_get ks i ≡ Some k → k < most
place_below most [] i k a e = absurd (cc)
place_below most (x ∷ ks) zero k a e = let same : x ≡ k = cc in let l = a.0 in omega (arith, same, l)
place_below most (x ∷ ks) (suc i) k a e = place_below most ks i k a.1 e

-- the value under what is given by number is that under the environment
pub worth_as_given : (env : List Given) (nodes : List Node) (term : ℕ) (given : ℕ → Option Number) (known : Option Number) (x : Number) →
    given ≡ given_for env → known ≡ Some (value_of (numbers_given given) nodes term) → known ≡ Some x → x ≡ value_of (inputs_of env) nodes term
worth_as_given env nodes term given known x e is at =
    let f : Some x ≡ Some (value_of (numbers_given given) nodes term) = sym at ∙ is in
    let g : x ≡ value_of (numbers_given given) nodes term = cc in
    g ∙ ap (λ (h : ℕ → Option Number). value_of (numbers_given h) nodes term) e
