-- Groups of the nodes at ascending places, with nothing between them.
use Rattle.std.proofs.Common.{◌≡◌, ◌≢◌, ◌<◌, ◌≤◌, ℕ, zero, suc, ◌+◌, ◌-◌, ◌^◌, ◌||◌, true, false, List, []}
use Rattle.std.proofs.Common.{◌∷◌, ◌++◌, length, drop, get_or, replicate, Some, slice_get, refl, sym, subst, ap, ◌∙◌, append_assoc, length-append, arith}
use Rattle.std.proofs.lemmas.Bool.{eq-eqb, ne_eqb}
use Rattle.std.proofs.lemmas.List.{append-nil, drop_more, drop_all, length-replicate}
use Rattle.ygg_cnf.specs.declared.lit.Lit.{Lit}
use Rattle.ygg_bank.specs.Nodes.{Stands}
use Rattle.ygg_bank.specs.Reaching.{has_place, AllFrom, AllBelow, Ascends}
use Rattle.ygg_bank.specs.declared.node.Id.{Id}
use Rattle.ygg_bank.specs.declared.node.Node.{Node}
use Rattle.ygg_gates.specs.Groups.{Circuit, circuit, circuit_of, no_nodes, reaches, with_node}
use Rattle.ygg_gates.specs.Sources.{Variables}
use Rattle.ygg_gates.specs.declared.gate.Gate.{Gate}
use Rattle.ygg_blast.proofs.Steps.{Grouping, groups_begin, groups_go, groups_are}

-- with so many nodes more that have no bits
abbrev pub skipped : Circuit → ℕ → Circuit
skipped c k = circuit (c.table ++ replicate k []) c.sources c.gates

there : {A : Type 0} (xs : List A) (i : ℕ) → i < length xs → (x : A) × (slice_get xs i ≡ Some x)
there [] i l = absurd (omega (arith, l))
there (x ∷ xs) zero l = (x, refl)
there (x ∷ xs) (suc i) l = there xs i (omega (arith, l))

groups_skip : (nodes : List Node) (term : Id) (k i : ℕ) (now : Circuit) → Stands nodes term → i + k ≤ term.0 + 1 →
    ((p : ℕ) → i ≤ p → p < i + k → reaches nodes term p ≡ false) →
    Grouping nodes term i now → Grouping nodes term (i + k) (skipped now k)
groups_skip nodes term zero i now s l none g =
    let e : i + 0 ≡ i = omega arith in
    let same : now ≡ skipped now 0 = ap (λ t. circuit t now.sources now.gates) (sym (append-nil now.table)) in
    subst (λ c. Grouping nodes term (i + 0) c) same (subst (λ n. Grouping nodes term n now) (sym e) g)
groups_skip nodes term (suc k) i now s l none g =
    let n = there nodes i (omega (arith, s, l)) in
    let one : Circuit = with_node false n.0 now in
    let next = groups_go nodes term i now n.0 false one (omega (arith, l)) n.1 (sym (none i (omega arith) (omega arith))) refl g in
    let rest = groups_skip nodes term k (i + 1) one s (omega (arith, l)) (λ p q r. none p (omega (arith, q)) (omega (arith, r))) next in
    let e : i + 1 + k ≡ i + suc k = omega arith in
    let same : skipped one k ≡ skipped now (suc k) = ap (λ t. circuit t now.sources now.gates) (append_assoc now.table ([] ∷ []) (replicate k [])) in
    subst (λ c. Grouping nodes term (i + suc k) c) same (subst (λ m. Grouping nodes term m (skipped one k)) e rest)

none_below : (m : ℕ) (ks : List ℕ) (p : ℕ) → AllFrom m ks → p < m → has_place ks p ≡ false
none_below m [] p h l = refl
none_below m (k ∷ ks) p h l =
    let d : k ≢ p = (let q = h.0 in λ f. omega (arith, q, l, f)) in
    ap (λ b. b || has_place ks p) (ne_eqb k p d) ∙ none_below m ks p h.1 l

-- what is made of the nodes so far, where the places of those that are still to come are these
pub record Filling (nodes : List Node) (term : Id) (now : Circuit) (rest : List ℕ) : Type 0 where
  pub group : Grouping nodes term (length now.table) now
  pub within : length now.table ≤ term.0 + 1
  pub ascends : Ascends rest
  pub from : AllFrom (length now.table) rest
  pub below : AllBelow (term.0 + 1) rest
  pub left : (p : ℕ) → length now.table ≤ p → has_place rest p ≡ reaches nodes term p

from_zero : (ks : List ℕ) → AllFrom 0 ks
from_zero [] = tt
from_zero (k ∷ ks) = (omega arith, from_zero ks)

pub fill_begins : (nodes : List Node) (term : Id) (places : List ℕ) → Ascends places → AllBelow (term.0 + 1) places →
    ((p : ℕ) → has_place places p ≡ reaches nodes term p) → Filling nodes term no_nodes places
fill_begins nodes term places a b h = record {
  group = groups_begin nodes term;
  within = omega arith;
  ascends = a;
  from = from_zero places;
  below = b;
  left = λ p l. h p;
}

pub fill_goes : (nodes : List Node) (term : Id) (now next : Circuit) (place : ℕ) (rest : List ℕ) (n : Node) → Stands nodes term →
    slice_get nodes place ≡ Some n →
    next ≡ with_node true n (skipped now (place - length now.table)) → Filling nodes term now (place ∷ rest) → Filling nodes term next rest
fill_goes nodes term now next place rest n s at e f =
    let i : ℕ = length now.table in
    let l : i ≤ place = f.from.0 in
    let b : place < term.0 + 1 = f.below.0 in
    let sum : i + (place - i) ≡ place = omega (arith, l) in
    let none : (p : ℕ) → i ≤ p → p < i + (place - i) → reaches nodes term p ≡ false
    = λ p q r.
    let d : place ≢ p = λ t. omega (arith, sum, r, t) in
    sym (f.left p q) ∙ ap (λ z. z || has_place rest p) (ne_eqb place p d) ∙ none_below (place + 1) rest p f.ascends.0 (omega (arith, sum, r)) in
    let gone = subst (λ m. Grouping nodes term m (skipped now (place - i))) sum
    (groups_skip nodes term (place - i) i now s (omega (arith, sum, b)) none f.group) in
    let here : true ≡ reaches nodes term place = sym (ap (λ z. z || has_place rest place) (eq-eqb place place refl)) ∙ f.left place l in
    let made = groups_go nodes term place (skipped now (place - i)) n true next b at here e gone in
    let count : length next.table ≡ place + 1 = made.count in
    record {
      group = subst (λ m. Grouping nodes term m next) (sym count) made;
      within = omega (arith, count, b);
      ascends = f.ascends.1;
      from = subst (λ m. AllFrom m rest) (sym count) f.ascends.0;
      below = f.below.1;
      left = λ p q.
          let d : place ≢ p = λ t. omega (arith, count, q, t) in
          sym (ap (λ z. z || has_place rest p) (ne_eqb place p d)) ∙ f.left p (omega (arith, count, q, l));
    }

pub fill_ends : (nodes : List Node) (term : Id) (now last : Circuit) → Stands nodes term → last ≡ skipped now (term.0 + 1 - length now.table) →
    Filling nodes term now [] → last ≡ circuit_of nodes term
fill_ends nodes term now last s e f =
    let i : ℕ = length now.table in
    let w = f.within in
    let sum : i + (term.0 + 1 - i) ≡ term.0 + 1 = omega (arith, w) in
    let all = groups_skip nodes term (term.0 + 1 - i) i now s (omega (arith, sum)) (λ p q r. sym (f.left p q)) f.group in
    e ∙ groups_are nodes term (i + (term.0 + 1 - i)) (skipped now (term.0 + 1 - i)) (omega (arith, sum)) all

-- the same by the places from an index on
pub fill_next : (nodes : List Node) (term : Id) (now next : Circuit) (places : List ℕ) (i d : ℕ) (n : Node) → i < length places → Stands nodes term →
    slice_get nodes (get_or places i d) ≡ Some n →
    next ≡ with_node true n (skipped now (get_or places i d - length now.table)) → Filling nodes term now (drop i places) →
    Filling nodes term next (drop (i + 1) places)
fill_next nodes term now next places i d n l s at e f =
    fill_goes nodes term now next (get_or places i d) (drop (i + 1) places) n s at e (subst (Filling nodes term now) (drop_more places i d l) f)

pub fill_begins_with : (nodes : List Node) (term : Id) (places : List ℕ) (table : List (List Lit)) (sources : List Variables) (gates : List Gate) →
    table ≡ [] → sources ≡ [] → gates ≡ [] → Ascends places →
    AllBelow (term.0 + 1) places → ((p : ℕ) → has_place places p ≡ reaches nodes term p) → Filling nodes term (circuit table sources gates) places
fill_begins_with nodes term places table sources gates e f g a b h =
    let same : no_nodes ≡ circuit table sources gates = sym (ap (λ t. circuit t sources gates) e ∙ ap (λ s. circuit [] s gates) f ∙ ap (circuit [] []) g) in
    subst (λ c. Filling nodes term c places) same (fill_begins nodes term places a b h)

below_at : (most : ℕ) (places : List ℕ) (i d : ℕ) → i < length places → AllBelow most (drop i places) → get_or places i d < most
below_at most places i d l h = let b = subst (AllBelow most) (drop_more places i d l) h in b.0

from_at : (least : ℕ) (places : List ℕ) (i d : ℕ) → i < length places → AllFrom least (drop i places) → least ≤ get_or places i d
from_at least places i d l h = let b = subst (AllFrom least) (drop_more places i d l) h in b.0

-- a table that goes on to one of the places is short enough
pub short_enough : (nodes : List Node) (term : Id) (now : Circuit) (places : List ℕ) (i d count : ℕ) (table : List (List Lit)) → i < length places →
    Stands nodes term → count ≡ length nodes → count < 2 ^ 64 →
    table ≡ now.table ++ replicate (get_or places i d - length now.table) [] → Filling nodes term now (drop i places) → length table + 1 < 2 ^ 64
short_enough nodes term now places i d count table l s c m e f =
    let b = below_at (term.0 + 1) places i d l f.below in
    let low = from_at (length now.table) places i d l f.from in
    let k : ℕ = get_or places i d - length now.table in
    let size = ap (λ z. length z) e in
    omega (arith, b, s, c, m, low, size, length-append now.table (replicate k []), length-replicate {A = List Lit} k [])

-- no place is left after the last
pub none_left : (nodes : List Node) (term : Id) (now : Circuit) (places : List ℕ) (i : ℕ) → length places ≤ i → Filling nodes term now (drop i places)
    → Filling nodes term now []
none_left nodes term now places i l f = subst (Filling nodes term now) (drop_all i places l) f

-- the next place is behind the nodes so far, and a node stands there
pub next_place : (nodes : List Node) (term : Id) (now : Circuit) (places : List ℕ) (i d : ℕ) → i < length places → Stands nodes term →
    Filling nodes term now (drop i places) → (length now.table ≤ get_or places i d) × (get_or places i d < length nodes)
next_place nodes term now places i d l s f =
    let e = drop_more places i d l in
    let behind = subst (AllFrom (length now.table)) e f.from in
    let below = subst (AllBelow (term.0 + 1)) e f.below in
    let there = below.0 in
    (behind.0, omega (arith, s, there))
