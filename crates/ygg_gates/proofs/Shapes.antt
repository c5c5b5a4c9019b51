-- The bits of all nodes that are reached, as more nodes come.
use Rattle.std.proofs.Common.{
  ◌≡◌,
  ◌<◌,
  ◌≤◌,
  ℕ,
  ◌+◌,
  Bool,
  true,
  false,
  List,
  [],
  ◌∷◌,
  ◌++◌,
  length,
  take,
  drop,
  Some,
  slice_get,
  ⊎_elim,
  sym,
  subst,
  ap,
  ◌∙◌,
  arith,
  refl,
  append_assoc,
}
use Rattle.std.proofs.lemmas.Bool.{false≢true, cases_lt}
use Rattle.std.proofs.lemmas.List.{length-take, length_push, take-append-drop, take_more, get_or_append_left, get_or_push}
use Rattle.std.proofs.lemmas.Option.{slice_get_within, get_or_from_slice_get}
use Rattle.ygg_cnf.specs.declared.lit.Lit.{Lit}
use Rattle.ygg_bank.proofs.Children.{one_child, two_child, only_child, test_child, yes_child, no_child}
use Rattle.ygg_bank.proofs.Places.{at_end}
use Rattle.ygg_bank.proofs.Widths.{widths_more, widths_length, wider, has_width, stored_can}
use Rattle.ygg_bank.specs.Making.{id}
use Rattle.ygg_bank.specs.Nodes.{width_at, node_width, widths_of, HasWidth, Stands, CanMake, InOrder, Extends}
use Rattle.ygg_bank.specs.Reaching.{has_child}
use Rattle.ygg_bank.specs.declared.node.Id.{Id}
use Rattle.ygg_bank.specs.declared.node.Node.{Node}
use Rattle.ygg_bank.specs.declared.node.Node.TheVariants.{Input, Const, Bin, Not, Resize, Pick}
use Rattle.ygg_gates.specs.Circuits.{Out, next_variable}
use Rattle.ygg_gates.specs.Groups.{Circuit, bits_at, node_bits, with_node, with_nodes}
use Rattle.ygg_gates.proofs.Following.{Closed}
use Rattle.ygg_gates.proofs.Lists.{middle}
use Rattle.ygg_gates.proofs.NodeGates.{ChildBits, ChildrenBits, NodeMeans, node_good}
use Rattle.ygg_gates.proofs.BitNumbers.{AreBits, bits_more}
use Rattle.ygg_gates.proofs.CircuitSteps.{Good, Grows, grows_self, grows_both, grows_length}

-- the first nodes, and all
pub front : (ns : List Node) (k : ℕ) → Extends (take k ns) ns
front ns k = record { more = drop k ns; is = sym (take-append-drop k ns) }

-- the children of nodes that are reached are reached
abbrev pub Downwards : List Node → (ℕ → Bool) → Type 0
Downwards ns r = (k : ℕ) (n : Node) (p : ℕ) → slice_get ns k ≡ Some n → r k ≡ true → has_child n p ≡ true → r p ≡ true

-- the gates read one another alone, and each node that is reached has its bits
pub record Shaped (ns : List Node) (r : ℕ → Bool) (c : Circuit) : Type 0 where
  pub closed : Closed c.gates
  pub bits : (p w : ℕ) → p < length c.table → r p ≡ true → HasWidth ns (id p) w → AreBits w (next_variable c.gates) (bits_at c.table (id p))

-- the node at a place, which is the next one
pub record IsNext (ns : List Node) (r : ℕ → Bool) (c : Circuit) (n : Node) : Type 0 where
  pub ordered : InOrder [] ns
  pub down : Downwards ns r
  pub there : slice_get ns (length c.table) ≡ Some n
  pub shaped : Shaped ns r c

module _ (ns : List Node) (r : ℕ → Bool) (c : Circuit) (n : Node) where
  -- the nodes before
  abbrev pub earlier : List Node
  earlier = take (length c.table) ns

  pub can_make : IsNext ns r c n → CanMake earlier n
  can_make h = stored_can ns (length c.table) n h.ordered h.there

  pub child_width : (a : Id) → Stands earlier a → HasWidth ns a (width_at (widths_of earlier) a)
  child_width a s = wider earlier ns a (width_at (widths_of earlier) a) (front ns (length c.table)) (has_width earlier a s)

  pub child_place : (a : Id) → Stands earlier a → a.0 < length c.table
  child_place a s = omega (arith, length-take (length c.table) ns)

  child : (a : Id) → IsNext ns r c n → r a.0 ≡ true → Stands earlier a → ChildBits earlier c.table (next_variable c.gates) a
  child a h e s = h.shaped.bits a.0 (width_at (widths_of earlier) a) (child_place a s) e (child_width a s)

children : (ns : List Node) (r : ℕ → Bool) (c : Circuit) (n : Node) → IsNext ns r c n → r (length c.table) ≡ true →
    ChildrenBits (take (length c.table) ns) c.table (next_variable c.gates) n
children ns r c (Input m w) h e = tt
children ns r c (Const k) h e = tt
children ns r c (Bin o a b) h e =
    let n : Node = Bin o a b in
    let k = can_make ns r c n h in (
      child ns r c n a h (h.down (length c.table) n a.0 h.there e (one_child o a b)) k.one,
      child ns r c n b h (h.down (length c.table) n b.0 h.there e (two_child o a b)) k.two,
    )
children ns r c (Not a) h e = child ns r c (Not a) a h (h.down (length c.table) (Not a) a.0 h.there e (only_child a)) (can_make ns r c (Not a) h)
children ns r c (Resize a w) h e = let k = can_make ns r c (Resize a w) h in
    child ns r c (Resize a w) a h (h.down (length c.table) (Resize a w) a.0 h.there e (only_child a)) k.0
children ns r c (Pick t a b) h e =
    let n : Node = Pick t a b in
    let k = can_make ns r c n h in (
      child ns r c n t h (h.down (length c.table) n t.0 h.there e (test_child t a b)) k.test,
      child ns r c n a h (h.down (length c.table) n a.0 h.there e (yes_child t a b)) k.yes,
      child ns r c n b h (h.down (length c.table) n b.0 h.there e (no_child t a b)) k.no,
    )

-- the next node's gates
pub next_good : (ns : List Node) (r : ℕ → Bool) (c : Circuit) (n : Node) → IsNext ns r c n → r (length c.table) ≡ true →
    Good (List Lit) (AreBits (node_width (widths_of (take (length c.table) ns)) n)) (NodeMeans c.table (next_variable c.gates) n) c.gates
    (node_bits c.table n c.gates)
next_good ns r c n h e = node_good (take (length c.table) ns) c.table n c.gates (can_make ns r c n h) (children ns r c n h e)

-- the next node's width
next_width : (ns : List Node) (k : ℕ) (n : Node) (w : ℕ) → slice_get ns k ≡ Some n → HasWidth ns (id k) w → w ≡ node_width (widths_of (take k ns)) n
next_width ns k n w e h =
    let in_ns : k < length ns = slice_get_within ns k n e in
    let ws = widths_of (take k ns) in
    let own = node_width ws n in
    let count : length ws ≡ k = omega (arith, widths_length (take k ns), length-take k ns) in
    let more : take (k + 1) ns ≡ take k ns ++ n ∷ [] = take_more ns k n in_ns ∙ ap (λ z. take k ns ++ z ∷ []) (get_or_from_slice_get ns k n n e) in
    let last : slice_get (ws ++ own ∷ []) k ≡ Some own = subst (λ z. slice_get (ws ++ own ∷ []) z ≡ Some own) count (at_end ws own) in
    let here : HasWidth (take (k + 1) ns) (id k) own
    = subst (λ z. HasWidth z (id k) own) (sym more) (subst (λ z. slice_get z k ≡ Some own) (sym (widths_more (take k ns) n)) last) in
    let all : HasWidth ns (id k) own = wider (take (k + 1) ns) ns (id k) own (front ns (k + 1)) here in
    let same : Some w ≡ Some own = sym h ∙ all in cc

-- the bits in a table with one more entry
pub earlier_bits : (table : List (List Lit)) (x : List Lit) (p : ℕ) → p < length table → bits_at (table ++ x ∷ []) (id p) ≡ bits_at table (id p)
earlier_bits table x p l = get_or_append_left table (x ∷ []) [] p l

pub last_bits : (table : List (List Lit)) (x : List Lit) → bits_at (table ++ x ∷ []) (id (length table)) ≡ x
last_bits table x = get_or_push table x [] (length table) refl

-- with the next node
next_shaped : (ns : List Node) (r : ℕ → Bool) (c : Circuit) (n : Node) (b : Bool) → IsNext ns r c n → r (length c.table) ≡ b → Shaped ns r (with_node b n c)
next_shaped ns r c n false h e = record {
  closed = h.shaped.closed;
  bits = λ p w l f g.
      ⊎_elim (λ (m : p < length c.table). subst (AreBits w (next_variable c.gates)) (sym (earlier_bits c.table [] p m)) (h.shaped.bits p w m f g))
      (λ (m : length c.table ≤ p). absurd (let s : p ≡ length c.table = omega (arith, l, m, length_push c.table []) in let t : r p ≡ false = ap r s
      ∙ e in false≢true (sym t ∙ f)))
      (cases_lt p (length c.table));
}
next_shaped ns r c n true h e =
    let out : Out (List Lit) = node_bits c.table n c.gates in
    let g = next_good ns r c n h e in
    record {
      closed = g.closed h.shaped.closed;
      bits = λ p w l f i.
          ⊎_elim
          (λ (m : p < length c.table).
          subst (AreBits w (next_variable out.gates)) (sym (earlier_bits c.table out.value p m))
          (bits_more w (next_variable c.gates) (next_variable out.gates) (bits_at c.table (id p)) (grows_length c.gates out.gates g.grows)
          (h.shaped.bits p w m f i)))
          (λ (m : length c.table ≤ p).
          let s : length c.table ≡ p = omega (arith, l, m, length_push c.table out.value) in
          let width : w ≡ node_width (widths_of (take (length c.table) ns)) n =
          next_width ns (length c.table) n w h.there (subst (λ z. HasWidth ns (id z) w) (sym s) i) in
          subst (λ z. AreBits w (next_variable out.gates) (bits_at (c.table ++ out.value ∷ []) (id z))) s
          (subst (AreBits w (next_variable out.gates)) (sym (last_bits c.table out.value))
          (subst (λ z. AreBits z (next_variable out.gates) out.value) (sym width) g.within)))
          (cases_lt p (length c.table));
    }

-- what comes of more nodes: bits for all that are reached, more gates, and the same bits as before of the nodes before
pub record Later (ns : List Node) (r : ℕ → Bool) (c d : Circuit) : Type 0 where
  pub shaped : Shaped ns r d
  pub grows : Grows c.gates d.gates
  pub same : (p : ℕ) → p < length c.table → bits_at d.table (id p) ≡ bits_at c.table (id p)

pub next_length : (b : Bool) (n : Node) (c : Circuit) → length (with_node b n c).table ≡ length c.table + 1
next_length false n c = length_push c.table []
next_length true n c = length_push c.table (node_bits c.table n c.gates).value

next_grows : (ns : List Node) (r : ℕ → Bool) (c : Circuit) (n : Node) (b : Bool) → IsNext ns r c n → r (length c.table) ≡ b →
    Grows c.gates (with_node b n c).gates
next_grows ns r c n false h e = grows_self c.gates
next_grows ns r c n true h e = let g = next_good ns r c n h e in g.grows

pub next_same : (b : Bool) (n : Node) (c : Circuit) (p : ℕ) → p < length c.table → bits_at (with_node b n c).table (id p) ≡ bits_at c.table (id p)
next_same false n c p l = earlier_bits c.table [] p l
next_same true n c p l = earlier_bits c.table (node_bits c.table n c.gates).value p l

pub next_later : (ns : List Node) (r : ℕ → Bool) (c : Circuit) (n : Node) → IsNext ns r c n → Later ns r c (with_node (r (length c.table)) n c)
next_later ns r c n h = record {
  shaped = next_shaped ns r c n (r (length c.table)) h refl;
  grows = next_grows ns r c n (r (length c.table)) h refl;
  same = next_same (r (length c.table)) n c;
}

-- nodes that are made, and those that are left
pub record IsPart (ns before rest : List Node) (r : ℕ → Bool) (c : Circuit) : Type 0 where
  pub ordered : InOrder [] ns
  pub down : Downwards ns r
  pub all : before ++ rest ≡ ns
  pub count : length before ≡ length c.table
  pub shaped : Shaped ns r c

pub part_next : (ns before : List Node) (n : Node) (rest : List Node) (r : ℕ → Bool) (c : Circuit) → IsPart ns before (n ∷ rest) r c → IsNext ns r c n
part_next ns before n rest r c h = record {
  ordered = h.ordered;
  down = h.down;
  there = subst (λ z. slice_get ns z ≡ Some n) h.count (subst (λ z. slice_get z (length before) ≡ Some n) h.all (middle before n rest));
  shaped = h.shaped;
}

pub part_step : (ns before : List Node) (n : Node) (rest : List Node) (r : ℕ → Bool) (c : Circuit) → IsPart ns before (n ∷ rest) r c →
    IsPart ns (before ++ n ∷ []) rest r (with_node (r (length c.table)) n c)
part_step ns before n rest r c h = record {
  ordered = h.ordered;
  down = h.down;
  all = append_assoc before (n ∷ []) rest ∙ h.all;
  count = length_push before n ∙ ap (λ z. z + 1) h.count ∙ sym (next_length (r (length c.table)) n c);
  shaped = (next_later ns r c n (part_next ns before n rest r c h)).shaped;
}

-- all that comes of the nodes that are left
pub rest_later : (ns before rest : List Node) (r : ℕ → Bool) (c : Circuit) → IsPart ns before rest r c → Later ns r c (with_nodes r rest c)
rest_later ns before [] r c h = record { shaped = h.shaped; grows = grows_self c.gates; same = λ p l. refl }
rest_later ns before (n ∷ rest) r c h =
    let d : Circuit = with_node (r (length c.table)) n c in
    let one = next_later ns r c n (part_next ns before n rest r c h) in
    let two = rest_later ns (before ++ n ∷ []) rest r d (part_step ns before n rest r c h) in
    record {
      shaped = two.shaped;
      grows = grows_both c.gates d.gates (with_nodes r rest d).gates one.grows two.grows;
      same = λ p l. two.same p (let m = next_length (r (length c.table)) n c in omega (arith, m, l)) ∙ one.same p l;
    }
