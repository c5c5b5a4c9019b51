-- What a term reaches.
use Rattle.std.proofs.Common.{
  ◌≡◌,
  ◌≤◌,
  ℕ,
  zero,
  suc,
  ◌+◌,
  Bool,
  true,
  false,
  ◌&&◌,
  ◌||◌,
  List,
  [],
  ◌∷◌,
  ◌++◌,
  length,
  take,
  drop,
  Some,
  slice_get,
  ◌↔◌,
  ⊎_elim,
  sym,
  subst,
  ap,
  ◌∙◌,
  arith,
  refl,
  length-append,
  append_assoc,
}
use Rattle.std.proofs.lemmas.Bool.{eq-eqb}
use Rattle.std.proofs.lemmas.Bool.Decides.{Decides-eqb}
use Rattle.std.proofs.lemmas.List.{length-take, take-append-drop}
use Rattle.ygg_bank.proofs.Children.{child_before}
use Rattle.ygg_bank.proofs.Places.{in_front}
use Rattle.ygg_bank.proofs.Widths.{ordered_fewer, stored_can}
use Rattle.ygg_bank.specs.Nodes.{InOrder, IsBank, Stands}
use Rattle.ygg_bank.specs.Reaching.{has_child, Reaches}
use Rattle.ygg_bank.specs.Reaching.Reaches.{itself, child}
use Rattle.ygg_bank.specs.declared.node.Id.{Id}
use Rattle.ygg_bank.specs.declared.node.Node.{Node}
use Rattle.ygg_gates.specs.Groups.{reaches, reaches_from, up_to}
use Rattle.ygg_gates.proofs.Lists.{among_first, middle}
use Rattle.ygg_gates.proofs.Truths.{and_left, and_right, and_both, or_cases, or_first, or_second}

or_own : (a b : Bool) → (a || (a && b)) ≡ true → a ≡ true
or_own true b h = refl
or_own false b h = h

-- the children of a node that is reached are reached
pub reach_children : (first : ℕ) (before ns : List Node) (t : ℕ) → length before ≡ first → InOrder before ns → (i : ℕ) (n : Node) (p : ℕ) →
    slice_get ns i ≡ Some n →
    reaches_from first ns t (first + i) ≡ true → has_child n p ≡ true → reaches_from first ns t p ≡ true
reach_children first before [] t l o i n p e h c = absurd (cc)
reach_children first before (m ∷ ns) t l o zero n p e h c =
    let same : m ≡ n = cc in
    let here : first + 0 ≡ first = omega arith in
    let own : reaches_from (first + 1) ns t first ≡ true
    = or_own (reaches_from (first + 1) ns t first) (has_child m first) (ap (λ q. reaches_from first (m ∷ ns) t q) (sym here) ∙ h) in
    or_second (reaches_from (first + 1) ns t p) (reaches_from (first + 1) ns t first && has_child m p) (and_both _ _ own (ap (λ z. has_child z p) same ∙ c))
reach_children first before (m ∷ ns) t l o (suc i) n p e h c =
    let there : first + suc i ≡ first + 1 + i = omega arith in
    let q : ℕ = first + 1 + i in
    let g : reaches_from first (m ∷ ns) t q ≡ true = ap (λ z. reaches_from first (m ∷ ns) t z) (sym there) ∙ h in
    ⊎_elim
    (λ (f : reaches_from (first + 1) ns t q ≡ true).
    or_first (reaches_from (first + 1) ns t p) (reaches_from (first + 1) ns t first && has_child m p)
    (reach_children (first + 1) (before ++ m ∷ []) ns t (omega (arith, l, length-append before (m ∷ []))) o.1 i n p e f c))
    (λ (f : (reaches_from (first + 1) ns t first && has_child m q) ≡ true).
    absurd (let b = child_before before m q o.0 (and_right (reaches_from (first + 1) ns t first) (has_child m q) f) in omega (arith, b, l)))
    (or_cases (reaches_from (first + 1) ns t q) (reaches_from (first + 1) ns t first && has_child m q) g)

-- a term reaches itself
pub term_reached : (first : ℕ) (ns : List Node) (t : ℕ) → reaches_from first ns t t ≡ true
term_reached first [] t = eq-eqb t t refl
term_reached first (n ∷ ns) t = or_first (reaches_from (first + 1) ns t t) (reaches_from (first + 1) ns t first && has_child n t)
    (term_reached (first + 1) ns t)

-- what the test lets through is reached
passing_reached : (nodes : List Node) (t first : ℕ) (before ns : List Node) (p : ℕ) → length before ≡ first →
    ((i : ℕ) (n : Node) → slice_get (before ++ ns) i ≡ Some n → slice_get nodes i ≡ Some n) →
    reaches_from first ns t p ≡ true → Reaches nodes t p
passing_reached nodes t first before [] p l there h = subst (Reaches nodes t) ((Decides-eqb t p).0 h) itself
passing_reached nodes t first before (n ∷ ns) p l there h =
    let deeper : (i : ℕ) (m : Node) → slice_get ((before ++ n ∷ []) ++ ns) i ≡ Some m → slice_get nodes i ≡ Some m
    = λ i m e. there i m (ap (λ z. slice_get z i) (sym (append_assoc before (n ∷ []) ns)) ∙ e) in
    let count : length (before ++ n ∷ []) ≡ first + 1 = omega (arith, l, length-append before (n ∷ [])) in
    let here : slice_get nodes first ≡ Some n = subst (λ z. slice_get nodes z ≡ Some n) l (there (length before) n (middle before n ns)) in
    ⊎_elim (λ (e : reaches_from (first + 1) ns t p ≡ true). passing_reached nodes t (first + 1) (before ++ n ∷ []) ns p count deeper e)
    (λ (e : (reaches_from (first + 1) ns t first && has_child n p) ≡ true).
    child first n p (passing_reached nodes t (first + 1) (before ++ n ∷ []) ns first count deeper
    (and_left (reaches_from (first + 1) ns t first) (has_child n p) e)) here
    (and_right (reaches_from (first + 1) ns t first) (has_child n p) e))
    (or_cases (reaches_from (first + 1) ns t p) (reaches_from (first + 1) ns t first && has_child n p) h)

-- what is reached passes the test, and stands at the term or before it
record Passes (nodes : List Node) (term : Id) (p : ℕ) : Type 0 where
  passes : reaches nodes term p ≡ true
  before : p ≤ term.0

reached_passes : (nodes : List Node) (term : Id) → InOrder [] nodes → InOrder [] (up_to term nodes) → (p : ℕ) → Reaches nodes term.0 p → Passes nodes term p
reached_passes nodes term o first p itself = record { passes = term_reached 0 (up_to term nodes) term.0; before = omega arith }
reached_passes nodes term o first p (child k n q r e h) =
    let s = reached_passes nodes term o first k r in
    let b = s.before in
    let there : slice_get (up_to term nodes) k ≡ Some n = among_first nodes (term.0 + 1) k n (omega arith) e in
    let here : 0 + k ≡ k = omega arith in
    let c = child_before (take k nodes) n p (stored_can nodes k n o e) h in
    record {
      passes = reach_children 0 [] (up_to term nodes) term.0 refl first k n p there (ap (reaches nodes term) here ∙ s.passes) h;
      before = omega (arith, c, length-take k nodes, b);
    }

pub tests_reaching : (nodes : List Node) (term : Id) (place : ℕ) → IsBank nodes → Stands nodes term → (reaches nodes term place ≡ true)
    ↔ Reaches nodes term.0 place
tests_reaching nodes term place b s =
    let k : ℕ = term.0 + 1 in
    let first : InOrder [] (up_to term nodes) = ordered_fewer [] (up_to term nodes) (drop k nodes)
    (subst (InOrder []) (sym (take-append-drop k nodes)) b.ordered) in (
      λ h. passing_reached nodes term.0 0 [] (up_to term nodes) place refl
          (λ i n e. subst (λ z. slice_get z i ≡ Some n) (take-append-drop k nodes) (in_front (take k nodes) (drop k nodes) i n e)) h,
      λ r. (reached_passes nodes term b.ordered first place r).passes,
    )
