-- The bits of all nodes that are reached name the nodes' values.
use Rattle.std.proofs.Common.{
  ◌≡◌,
  ◌<◌,
  ◌≤◌,
  ℕ,
  zero,
  suc,
  ◌+◌,
  ◌/◌,
  ◌%◌,
  ◌^◌,
  ◌==◌,
  Bool,
  true,
  false,
  List,
  [],
  ◌∷◌,
  ◌++◌,
  length,
  take,
  Some,
  slice_get,
  ⊎_elim,
  sym,
  subst,
  ap,
  ◌∙◌,
  arith,
  refl,
  length-append,
}
use Rattle.std.proofs.lemmas.Bool.{false≢true, cases_lt}
use Rattle.std.proofs.lemmas.List.{length_push}
use Rattle.ygg_cnf.specs.declared.lit.Lit.{Lit}
use Rattle.ygg_value.specs.Words.{bit_of}
use Rattle.ygg_bank.proofs.Children.{one_child, two_child, only_child, test_child, yes_child, no_child}
use Rattle.ygg_bank.proofs.Exist.{value_is, value_width}
use Rattle.ygg_bank.proofs.Widths.{has_width}
use Rattle.ygg_bank.specs.Making.{id}
use Rattle.ygg_bank.specs.Nodes.{width_at, widths_of, Stands}
use Rattle.ygg_bank.specs.Values.{Inputs, InputsFit, value_of as node_value_of}
use Rattle.ygg_bank.specs.declared.node.Id.{Id}
use Rattle.ygg_bank.specs.declared.node.Node.{Node}
use Rattle.ygg_bank.specs.declared.node.Node.TheVariants.{Input, Const, Bin, Not, Resize, Pick}
use Rattle.ygg_gates.specs.Circuits.{next_variable}
use Rattle.ygg_gates.specs.Groups.{Circuit, bits_at, node_bits, with_node, with_nodes}
use Rattle.ygg_gates.specs.Rows.{free_bits}
use Rattle.ygg_gates.specs.declared.gate.Gate.{Gate}
use Rattle.ygg_gates.specs.declared.gate.Gate.TheVariants.{Free}
use Rattle.ygg_gates.proofs.Following.{Closed, SameBelow, Extended, chosen, closed_push}
use Rattle.ygg_gates.proofs.NodeGates.{AreChildren, IsChild, IsGiven, NodeMeans, node_value_is}
use Rattle.ygg_gates.proofs.BitNumbers.{number, double, same_number}
use Rattle.ygg_gates.proofs.Shapes.{
  Shaped,
  IsNext,
  IsPart,
  can_make,
  child_width,
  child_place,
  next_good,
  next_length,
  earlier_bits,
  last_bits,
  part_next,
  part_step,
  rest_later,
}
use Rattle.ygg_gates.proofs.CircuitSteps.{follows_before}
use Rattle.ygg_gates.proofs.Truths.{Follows}

-- each node that is reached has the value that its bits name
abbrev pub Meant : List Node → (ℕ → Bool) → Inputs → (ℕ → Bool) → Circuit → Type 0
Meant ns r inputs v c = (p : ℕ) → p < length c.table → r p ≡ true → (node_value_of inputs ns p).bits ≡ number v (bits_at c.table (id p))

child_is : (ns : List Node) (r : ℕ → Bool) (c : Circuit) (n : Node) (inputs : Inputs) (v : ℕ → Bool) (a : Id) → IsNext ns r c n →
    Meant ns r inputs v c → r a.0 ≡ true → Stands (take (length c.table) ns) a →
    IsChild (node_value_of inputs ns) v c.table a
child_is ns r c n inputs v a h m e s =
    let w = width_at (widths_of (take (length c.table) ns)) a in
    let has = child_width ns r c n a s in
    let at = child_place ns r c n a s in
    let d = h.shaped.bits a.0 w at e has in
    record { width = value_width inputs ns a.0 w h.ordered has ∙ sym d.count; bits = m a.0 at e }

children_are : (ns : List Node) (r : ℕ → Bool) (c : Circuit) (n : Node) (inputs : Inputs) (v : ℕ → Bool) → IsNext ns r c n → Meant ns r inputs v c →
    r (length c.table) ≡ true →
    AreChildren (node_value_of inputs ns) v c.table n
children_are ns r c (Input m w) inputs v h i e = tt
children_are ns r c (Const k) inputs v h i e = tt
children_are ns r c (Bin o a b) inputs v h i e =
    let n : Node = Bin o a b in
    let k = can_make ns r c n h in (
      child_is ns r c n inputs v a h i (h.down (length c.table) n a.0 h.there e (one_child o a b)) k.one,
      child_is ns r c n inputs v b h i (h.down (length c.table) n b.0 h.there e (two_child o a b)) k.two,
    )
children_are ns r c (Not a) inputs v h i e = child_is ns r c (Not a) inputs v a h i (h.down (length c.table) (Not a) a.0 h.there e (only_child a))
    (can_make ns r c (Not a) h)
children_are ns r c (Resize a w) inputs v h i e =
    let k = can_make ns r c (Resize a w) h in child_is ns r c (Resize a w) inputs v a h i
    (h.down (length c.table) (Resize a w) a.0 h.there e (only_child a)) k.0
children_are ns r c (Pick t a b) inputs v h i e =
    let n : Node = Pick t a b in
    let k = can_make ns r c n h in
    let reached = h.down (length c.table) n t.0 h.there e (test_child t a b) in
    let d = h.shaped.bits t.0 (width_at (widths_of (take (length c.table) ns)) t) (child_place ns r c n t k.test) reached (child_width ns r c n t k.test) in (
      child_is ns r c n inputs v t h i reached k.test,
      child_is ns r c n inputs v a h i (h.down (length c.table) n a.0 h.there e (yes_child t a b)) k.yes,
      child_is ns r c n inputs v b h i (h.down (length c.table) n b.0 h.there e (no_child t a b)) k.no,
      d.count ∙ k.digit,
    )

-- the next node's bits name its value
next_value : (ns : List Node) (r : ℕ → Bool) (c : Circuit) (n : Node) (inputs : Inputs) (v : ℕ → Bool) (os : List Lit) → IsNext ns r c n →
    Meant ns r inputs v c → r (length c.table) ≡ true →
    IsGiven inputs v n os → NodeMeans c.table (next_variable c.gates) n v os → (node_value_of inputs ns (length c.table)).bits ≡ number v os
next_value ns r c n inputs v os h m e g i =
    ap (λ z. z.bits) (value_is inputs ns (length c.table) n h.ordered h.there)
    ∙ node_value_is inputs (node_value_of inputs ns) v c.table (next_variable c.gates) n os (children_are ns r c n inputs v h m e) g i

-- with the next node, where its bits mean it and its own input is the one that they name
pub next_meant : (ns : List Node) (r : ℕ → Bool) (c : Circuit) (n : Node) (inputs : Inputs) (v : ℕ → Bool) (b : Bool) → IsNext ns r c n →
    r (length c.table) ≡ b → Meant ns r inputs v c →
    (b ≡ true → IsGiven inputs v n (node_bits c.table n c.gates).value
    × NodeMeans c.table (next_variable c.gates) n v (node_bits c.table n c.gates).value) → Meant ns r inputs v (with_node b n c)
next_meant ns r c n inputs v false h e m g p l f =
    ⊎_elim (λ (i : p < length c.table). m p i f ∙ ap (number v) (sym (earlier_bits c.table [] p i)))
    (λ (i : length c.table ≤ p). absurd (let s : p ≡ length c.table = omega (arith, l, i, length_push c.table []) in let t : r p ≡ false = ap r s
    ∙ e in false≢true (sym t ∙ f)))
    (cases_lt p (length c.table))
next_meant ns r c n inputs v true h e m g p l f =
    let os : List Lit = (node_bits c.table n c.gates).value in
    let k = g refl in
    ⊎_elim (λ (i : p < length c.table). m p i f ∙ ap (number v) (sym (earlier_bits c.table os p i)))
    (λ (i : length c.table ≤ p).
    let s : length c.table ≡ p = omega (arith, l, i, length_push c.table os) in
    subst (λ z. (node_value_of inputs ns z).bits ≡ number v (bits_at (c.table ++ os ∷ []) (id z))) s
    (next_value ns r c n inputs v os h m e k.0 k.1 ∙ ap (number v) (sym (last_bits c.table os))))
    (cases_lt p (length c.table))

-- each input that is reached has the number that its bits name
abbrev pub AllGiven : List Node → (ℕ → Bool) → Inputs → (ℕ → Bool) → Circuit → Type 0
AllGiven ns r inputs v d = (p m w : ℕ) → p < length d.table → slice_get ns p ≡ Some (Input m w) → r p ≡ true → inputs m ≡ number v (bits_at d.table (id p))

given_here : (ns : List Node) (r : ℕ → Bool) (c : Circuit) (n : Node) (inputs : Inputs) (v : ℕ → Bool) (os : List Lit) →
    slice_get ns (length c.table) ≡ Some n →
    ((m w : ℕ) → slice_get ns (length c.table) ≡ Some (Input m w) → inputs m ≡ number v os) → IsGiven inputs v n os
given_here ns r c (Input m w) inputs v os e g = g m w e
given_here ns r c (Const k) inputs v os e g = tt
given_here ns r c (Bin o a b) inputs v os e g = tt
given_here ns r c (Not a) inputs v os e g = tt
given_here ns r c (Resize a w) inputs v os e g = tt
given_here ns r c (Pick t a b) inputs v os e g = tt

last_of : (c : Circuit) (n : Node) → bits_at (with_node true n c).table (id (length c.table)) ≡ (node_bits c.table n c.gates).value
last_of c n = last_bits c.table (node_bits c.table n c.gates).value

-- values of variables that follow all gates mean all nodes, where they name the inputs
pub rest_meant : (ns before rest : List Node) (r : ℕ → Bool) (c : Circuit) (inputs : Inputs) (v : ℕ → Bool) → IsPart ns before rest r c → v 1 ≡ true →
    Follows v 2 (with_nodes r rest c).gates →
    AllGiven ns r inputs v (with_nodes r rest c) → Meant ns r inputs v c → Meant ns r inputs v (with_nodes r rest c)
rest_meant ns before [] r c inputs v h t f g m = m
rest_meant ns before (n ∷ rest) r c inputs v h t f g m =
    let d : Circuit = with_node (r (length c.table)) n c in
    let next = part_next ns before n rest r c h in
    let step = part_step ns before n rest r c h in
    let late = rest_later ns (before ++ n ∷ []) rest r d step in
    let more = next_length (r (length c.table)) n c in
    let all : Circuit = with_nodes r rest d in
    let tall : length d.table ≤ length all.table = table_grows r rest d in
    let here : r (length c.table) ≡ true → IsGiven inputs v n (node_bits c.table n c.gates).value
    × NodeMeans c.table (next_variable c.gates) n v (node_bits c.table n c.gates).value
    = λ e.
    let os : List Lit = (node_bits c.table n c.gates).value in
    let good = next_good ns r c n next e in
    let same : bits_at all.table (id (length c.table)) ≡ os
    = late.same (length c.table) (omega (arith, more)) ∙ ap (λ b. bits_at (with_node b n c).table (id (length c.table))) e ∙ last_of c n in
    let follows : Follows v 2 d.gates = follows_before v d.gates all.gates late.grows f in (
      given_here ns r c n inputs v os next.there (λ k w i. g (length c.table) k w (omega (arith, more, tall)) i e ∙ ap (number v) same),
      good.means v t (subst (λ b. Follows v 2 (with_node b n c).gates) e follows),
    ) in
    rest_meant ns (before ++ n ∷ []) rest r d inputs v step t f g (next_meant ns r c n inputs v (r (length c.table)) next refl m here) where
      table_grows : (r : ℕ → Bool) (rest : List Node) (c : Circuit) → length c.table ≤ length (with_nodes r rest c).table
      table_grows r [] c = omega arith
      table_grows r (n ∷ rest) c =
          let e = next_length (r (length c.table)) n c in
          let l = table_grows r rest (with_node (r (length c.table)) n c) in
          omega (arith, e, l)

-- new variables with the bits of a number
record FreeChosen (v : ℕ → Bool) (width bits : ℕ) (old : List Gate) : Type 0 where
  extended : Extended v old (free_bits width old).gates
  is : number extended.it (free_bits width old).value ≡ bits
  closed : Closed (free_bits width old).gates

lowest_is : (n : ℕ) → bit_of (n % 2 == 1) ≡ n % 2
lowest_is n =
    ⊎_elim (λ (l : n % 2 < 1). let z : n % 2 ≡ 0 = omega arith in ap bit_of (ap (λ k. k == 1) z) ∙ sym z)
    (λ (l : 1 ≤ n % 2). let z : n % 2 ≡ 1 = omega arith in ap bit_of (ap (λ k. k == 1) z) ∙ sym z) (cases_lt (n % 2) 1)

free_chosen : (v : ℕ → Bool) (width bits : ℕ) (old : List Gate) → bits < 2 ^ width → Closed old → Follows v 2 old → FreeChosen v width bits old
free_chosen v zero bits old l c f = record {
  extended = record { it = v; same = λ k i. refl; follows = f };
  is = omega arith;
  closed = c;
}
free_chosen v (suc width) bits old l c f =
    let own : Bool = bits % 2 == 1 in
    let one = chosen v own Free old tt c f in
    let gates : List Gate = old ++ Free ∷ [] in
    let d = double width in
    let rest = free_chosen one.extended.it width (bits / 2) gates (omega (arith, d)) (closed_push old Free tt c) one.extended.follows in
    let grown : length gates ≡ length old + 1 = length_push old Free in
    let here : rest.extended.it (next_variable old) ≡ own = sym (rest.extended.same (next_variable old) (omega (arith, grown))) ∙ one.is in
    record {
      extended = record {
        it = rest.extended.it;
        same = λ k i. one.extended.same k i ∙ rest.extended.same k (omega (arith, grown));
        follows = rest.extended.follows;
      };
      is = (let b = ap bit_of here ∙ lowest_is bits in let n = rest.is in omega (arith, b, n));
      closed = rest.closed;
    }

-- truth values that follow a circuit's gates and mean its nodes
pub record Found (ns : List Node) (r : ℕ → Bool) (inputs : Inputs) (c : Circuit) : Type 0 where
  pub it : ℕ → Bool
  pub truth : it 1 ≡ true
  pub follows : Follows it 2 c.gates
  pub meant : Meant ns r inputs it c

-- values of more variables name the same numbers
still_meant : (ns : List Node) (r : ℕ → Bool) (inputs : Inputs) (c : Circuit) (v u : ℕ → Bool) → SameBelow (next_variable c.gates) v u → Shaped ns r c
    → length c.table ≤ length ns → Meant ns r inputs v c → Meant ns r inputs u c
still_meant ns r inputs c v u s h k m p l e =
    let stands : p < length ns = omega arith in
    let d = h.bits p (width_at (widths_of ns) (id p)) l e (has_width ns (id p) stands) in
    m p l e ∙ same_number (next_variable c.gates) v u (bits_at c.table (id p)) s d.below

-- values for the next node's gates, that name its own input
record Continued (inputs : Inputs) (v : ℕ → Bool) (n : Node) (c : Circuit) : Type 0 where
  extended : Extended v c.gates (node_bits c.table n c.gates).gates
  given : IsGiven inputs extended.it n (node_bits c.table n c.gates).value

continued : (ns : List Node) (r : ℕ → Bool) (inputs : Inputs) (c : Circuit) (n : Node) (v : ℕ → Bool) → IsNext ns r c n → r (length c.table) ≡ true →
    InputsFit inputs ns → Follows v 2 c.gates → Continued inputs v n c
continued ns r inputs c (Input m w) v h e fit f =
    let k = free_chosen v w (inputs m) c.gates (fit (length c.table) m w h.there) h.shaped.closed f in
    record { extended = k.extended; given = sym k.is }
continued ns r inputs c (Const k) v h e fit f = let g = next_good ns r c (Const k) h e in record { extended = g.extends h.shaped.closed v f; given = tt }
continued ns r inputs c (Bin o a b) v h e fit f = let g = next_good ns r c (Bin o a b) h e in record { extended = g.extends h.shaped.closed v f; given = tt }
continued ns r inputs c (Not a) v h e fit f = let g = next_good ns r c (Not a) h e in record { extended = g.extends h.shaped.closed v f; given = tt }
continued ns r inputs c (Resize a w) v h e fit f = let g = next_good ns r c (Resize a w) h e in record { extended = g.extends h.shaped.closed v f; given = tt }
continued ns r inputs c (Pick t a b) v h e fit f = let g = next_good ns r c (Pick t a b) h e in record { extended = g.extends h.shaped.closed v f; given = tt }

-- truth values with the next node
found_next : (ns : List Node) (r : ℕ → Bool) (inputs : Inputs) (c : Circuit) (n : Node) (b : Bool) → IsNext ns r c n → r (length c.table) ≡ b →
    InputsFit inputs ns → length c.table ≤ length ns → Found ns r inputs c → Found ns r inputs (with_node b n c)
found_next ns r inputs c n false h e fit l s = record {
  it = s.it;
  truth = s.truth;
  follows = s.follows;
  meant = next_meant ns r c n inputs s.it false h e s.meant (λ f. absurd (false≢true f));
}
found_next ns r inputs c n true h e fit l s =
    let k = continued ns r inputs c n s.it h e fit s.follows in
    let u : ℕ → Bool = k.extended.it in
    let t : u 1 ≡ true = sym (k.extended.same 1 (omega arith)) ∙ s.truth in
    let g = next_good ns r c n h e in
    record {
      it = u;
      truth = t;
      follows = k.extended.follows;
      meant = next_meant ns r c n inputs u true h e (still_meant ns r inputs c s.it u k.extended.same h.shaped l s.meant)
          (λ f. (k.given, g.means u t k.extended.follows));
    }

-- for all inputs there are values of variables that follow all gates and mean all nodes
pub found_rest : (ns before rest : List Node) (r : ℕ → Bool) (inputs : Inputs) (c : Circuit) → IsPart ns before rest r c → InputsFit inputs ns →
    Found ns r inputs c → Found ns r inputs (with_nodes r rest c)
found_rest ns before [] r inputs c h fit s = s
found_rest ns before (n ∷ rest) r inputs c h fit s =
    let within : length c.table ≤ length ns = (let l = h.count in omega (arith, l, ap length h.all, length-append before (n ∷ rest))) in
    found_rest ns (before ++ n ∷ []) rest r inputs (with_node (r (length c.table)) n c) (part_step ns before n rest r c h) fit
    (found_next ns r inputs c n (r (length c.table)) (part_next ns before n rest r c h) refl fit within s)
