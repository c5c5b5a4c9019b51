-- The clauses of a whole term.
use Rattle.std.proofs.Common.{
  ◌≡◌,
  ◌<◌,
  ◌≤◌,
  ℕ,
  zero,
  suc,
  ◌+◌,
  ◌^◌,
  ◌==◌,
  Bool,
  true,
  false,
  not,
  ◌&&◌,
  ◌||◌,
  Option,
  Some,
  None,
  if◌then◌else◌,
  List,
  [],
  ◌∷◌,
  ◌++◌,
  length,
  take,
  drop,
  slice_get,
  ⊎_elim,
  sym,
  subst,
  ap,
  ◌∙◌,
  arith,
  refl,
}
use Rattle.std.proofs.lemmas.Bool.{false≢true, cases_lt}
use Rattle.std.proofs.lemmas.List.{length-take, take-append-drop}
use Rattle.std.proofs.lemmas.Nat.{pow_pos}
use Rattle.ygg_cnf.specs.Literals.{complement, SatisfiesAll}
use Rattle.ygg_cnf.specs.declared.lit.Lit.{Lit}
use Rattle.ygg_value.specs.Number.{Number}
use Rattle.ygg_value.specs.Words.{bit_of, word}
use Rattle.ygg_bank.proofs.Exist.{keeps_values}
use Rattle.ygg_bank.proofs.Places.{in_front}
use Rattle.ygg_bank.proofs.Widths.{has_width, ordered_fewer, stands, wider}
use Rattle.ygg_bank.specs.Making.{id}
use Rattle.ygg_bank.specs.Nodes.{HasWidth, InOrder, IsBank, Distinct, width_at, widths_of}
use Rattle.ygg_bank.specs.Values.{EnvFits, Inputs, InputsFit, inputs_of, bits_or_zero, given_for, value_of as node_value_of}
use Rattle.ygg_bank.specs.declared.node.Id.{Id}
use Rattle.ygg_bank.specs.declared.node.Node.{Node}
use Rattle.ygg_bank.specs.declared.node.Node.TheVariants.{Input}
use Rattle.ygg_gates.specs.Circuits.{true_literal}
use Rattle.ygg_gates.specs.Clauses.{clauses_from}
use Rattle.ygg_gates.specs.Groups.{Circuit, circuit_clauses, circuit_of, bits_at, lowest, no_nodes, reaches, translated, up_to, with_node, with_nodes}
use Rattle.ygg_gates.specs.Sources.{Variables, environment_by, number_from}
use Rattle.ygg_gates.proofs.Given.{env_of, one_width, rest_sourced}
use Rattle.ygg_gates.proofs.Meant.{Found, Meant, found_rest, rest_meant}
use Rattle.ygg_gates.proofs.BitNumbers.{bit_small, double, number}
use Rattle.ygg_gates.proofs.Reached.{reach_children, term_reached}
use Rattle.ygg_gates.proofs.Shapes.{Downwards, IsPart, front, next_length, rest_later}
use Rattle.ygg_gates.proofs.Truths.{
  Follows,
  all_true,
  all_true-append,
  and_both,
  and_left,
  and_right,
  follows_from,
  satisfied,
  satisfies,
  true_from_follows,
  value_of,
  value_of-complement,
}
use Rattle.ygg_gates.specs.Laws.{AreExact, IsZeroIn}

-- a node of the first ones is there among all
there : (nodes : List Node) (k i : ℕ) (n : Node) → slice_get (take k nodes) i ≡ Some n → slice_get nodes i ≡ Some n
there nodes k i n e = subst (λ z. slice_get z i ≡ Some n) (take-append-drop k nodes) (in_front (take k nodes) (drop k nodes) i n e)

-- what holds of the nodes up to a term of width 1
record IsTop (nodes : List Node) (term : Id) : Type 0 where
  ordered : InOrder [] nodes
  first : InOrder [] (up_to term nodes)
  distinct : Distinct (up_to term nodes)
  stands_here : term.0 < length (up_to term nodes)
  width : HasWidth (up_to term nodes) (id term.0) 1

is_top : (nodes : List Node) (term : Id) → IsBank nodes → HasWidth nodes term 1 → IsTop nodes term
is_top nodes term b h =
    let ns : List Node = up_to term nodes in
    let k : ℕ = term.0 + 1 in
    let s = stands nodes term 1 h in
    let in_ns : term.0 < length ns = omega (arith, length-take k nodes) in
    let w = width_at (widths_of ns) term in
    let own = has_width ns term in_ns in
    let same : Some 1 ≡ Some w = sym h ∙ wider ns nodes term w (front nodes k) own in
    let one : w ≡ 1 = cc in
    record {
      ordered = b.ordered;
      first = ordered_fewer [] ns (drop k nodes) (subst (InOrder []) (sym (take-append-drop k nodes)) b.ordered);
      distinct = λ i j n e f. b.distinct i j n (there nodes k i n e) (there nodes k j n f);
      stands_here = in_ns;
      width = own ∙ ap (λ z. Some z) one;
    }

down : (nodes : List Node) (term : Id) → InOrder [] (up_to term nodes) → Downwards (up_to term nodes) (reaches nodes term)
down nodes term o k n p e h c =
    let here : 0 + k ≡ k = omega arith in
    reach_children 0 [] (up_to term nodes) term.0 refl o k n p e (ap (reaches nodes term) here ∙ h) c

begin : (nodes : List Node) (term : Id) → IsTop nodes term → IsPart (up_to term nodes) [] (up_to term nodes) (reaches nodes term) no_nodes
begin nodes term h = record {
  ordered = h.first;
  down = down nodes term h.first;
  all = refl;
  count = refl;
  shaped = record { closed = tt; bits = λ p w l e f. absurd (omega arith) };
}

table_length : (r : ℕ → Bool) (rest : List Node) (c : Circuit) → length (with_nodes r rest c).table ≡ length c.table + length rest
table_length r [] c = omega arith
table_length r (n ∷ rest) c =
    let e = next_length (r (length c.table)) n c in
    let l = table_length r rest (with_node (r (length c.table)) n c) in
    omega (arith, e, l)

term_in_table : (nodes : List Node) (term : Id) → IsTop nodes term → term.0 < length (circuit_of nodes term).table
term_in_table nodes term h = let l = h.stands_here in omega (arith, table_length (reaches nodes term) (up_to term nodes) no_nodes, l)

-- the term's literal is its one bit
one_bit : (v : ℕ → Bool) (xs : List Lit) → length xs ≡ 1 → number v xs ≡ bit_of (value_of v (lowest xs))
one_bit v [] l = absurd (omega (arith, l))
one_bit v (x ∷ []) l = omega arith
one_bit v (x ∷ (y ∷ ys)) l = absurd (omega (arith, l))

term_bit : (nodes : List Node) (term : Id) (v : ℕ → Bool) (inputs : Inputs) → IsTop nodes term →
    Meant (up_to term nodes) (reaches nodes term) inputs v (circuit_of nodes term) →
    (node_value_of inputs nodes term.0).bits ≡ bit_of (value_of v (lowest (bits_at (circuit_of nodes term).table term)))
term_bit nodes term v inputs h m =
    let ns : List Node = up_to term nodes in
    let c : Circuit = circuit_of nodes term in
    let at = term_in_table nodes term h in
    let reached = term_reached 0 ns term.0 in
    let late = rest_later ns [] ns (reaches nodes term) no_nodes (begin nodes term h) in
    let d = late.shaped.bits term.0 1 at reached h.width in
    ap (λ z. z.bits) (keeps_values ns nodes (front nodes (term.0 + 1)) inputs term.0 h.stands_here) ∙ m term.0 at reached
    ∙ one_bit v (bits_at c.table term) d.count

-- the clauses as tests
record AreTrue (v : ℕ → Bool) (c : Circuit) (term : Id) : Type 0 where
  truth : v 1 ≡ true
  follows : Follows v 2 c.gates
  literal_is : value_of v (lowest (bits_at c.table term)) ≡ false

single_true : (b : Bool) → ((b || false) && true) ≡ true → b ≡ true
single_true true e = refl
single_true false e = absurd (false≢true e)

true_single : (b : Bool) → b ≡ true → ((b || false) && true) ≡ true
true_single true e = refl
true_single false e = absurd (false≢true e)

turn : (b : Bool) → not b ≡ true → b ≡ false
turn true e = absurd (false≢true e)
turn false e = refl

all_parts : (v : ℕ → Bool) (c : Circuit) (term : Id) → all_true v (circuit_clauses c term) ≡ true → AreTrue v c term
all_parts v c term e =
    let first : List (List Lit) = (true_literal ∷ []) ∷ [] in
    let gates : List (List Lit) = clauses_from 2 c.gates in
    let lit : Lit = lowest (bits_at c.table term) in
    let last : List (List Lit) = (complement lit ∷ []) ∷ [] in
    let split = sym (all_true-append v (first ++ gates) last) ∙ e in
    let left = sym (all_true-append v first gates) ∙ and_left (all_true v (first ++ gates)) (all_true v last) split in
    record {
      truth = single_true (v 1) (and_left (all_true v first) (all_true v gates) left);
      follows = follows_from v 2 c.gates (and_right (all_true v first) (all_true v gates) left);
      literal_is = turn (value_of v lit) (sym (value_of-complement v lit)
          ∙ single_true (value_of v (complement lit)) (and_right (all_true v (first ++ gates)) (all_true v last) split));
    }

parts_all : (v : ℕ → Bool) (c : Circuit) (term : Id) → AreTrue v c term → all_true v (circuit_clauses c term) ≡ true
parts_all v c term h =
    let first : List (List Lit) = (true_literal ∷ []) ∷ [] in
    let gates : List (List Lit) = clauses_from 2 c.gates in
    let lit : Lit = lowest (bits_at c.table term) in
    let last : List (List Lit) = (complement lit ∷ []) ∷ [] in
    all_true-append v (first ++ gates) last
    ∙ and_both (all_true v (first ++ gates)) (all_true v last)
    (all_true-append v first gates ∙ and_both (all_true v first) (all_true v gates) (true_single (v 1) h.truth) (true_from_follows v 2 c.gates h.follows))
    (true_single (value_of v (complement lit)) (value_of-complement v lit ∙ ap not h.literal_is))

-- an input's width is the same wherever its number stands
input_width : (nodes : List Node) (p q m u w : ℕ) → InOrder [] nodes → slice_get nodes p ≡ Some (Input m u) → slice_get nodes q ≡ Some (Input m w) → u ≡ w
input_width nodes p q m u w o e f =
    ⊎_elim (λ (l : p < q). one_width nodes p q m u w o l e f)
    (λ (l : q ≤ p).
    ⊎_elim (λ (k : q < p). sym (one_width nodes q p m w u o k f e))
    (λ (k : p ≤ q). let s : p ≡ q = omega arith in let same : Some (Input m u) ≡ Some (Input m w) = sym e ∙ ap (slice_get nodes) s ∙ f in cc) (cases_lt q p))
    (cases_lt p q)

pub number_from_below : (v : ℕ → Bool) (first width : ℕ) → number_from v first width < 2 ^ width
number_from_below v first zero = omega arith
number_from_below v first (suc width) =
    let d = double width in let h = number_from_below v (first + 1) width in let b = bit_small (v first) in omega (arith, d, h, b)

given_below : (v : ℕ → Bool) (sources : List Variables) (m : ℕ) (x : Number) → given_for (environment_by v sources) m ≡ Some x → x.bits < 2 ^ x.width
given_below v [] m x e = absurd (cc)
given_below v (s ∷ sources) m x e =
    (elim (s.number == m) as (λ b. (if b then Some (word s.width (number_from v s.first s.width)) else given_for (environment_by v sources) m)
    ≡ Some x → x.bits < 2 ^ x.width) [
      | true ↦ (λ f. let g : word s.width (number_from v s.first s.width) ≡ x = cc in
          subst (λ (z : Number). z.bits < 2 ^ z.width) g (number_from_below v s.first s.width))
      | false ↦ given_below v sources m x
    ]) e

-- truth values that satisfy the clauses name an environment in which the term is 0
pub satisfying_is_zero : (nodes : List Node) (term : Id) (v : ℕ → Bool) → IsBank nodes → HasWidth nodes term 1 →
    SatisfiesAll v (translated nodes term).clauses → IsZeroIn nodes term (environment_by v (translated nodes term).sources)
satisfying_is_zero nodes term v b h s =
    let top = is_top nodes term b h in
    let ns : List Node = up_to term nodes in
    let c : Circuit = circuit_of nodes term in
    let parts = all_parts v c term (satisfies v (circuit_clauses c term) s) in
    let start = begin nodes term top in
    let sourced = rest_sourced ns [] ns (reaches nodes term) v no_nodes start top.distinct parts.truth parts.follows
    (record { looked = λ q m w l e f. absurd (omega arith); known = λ m x e. cc }) in
    let inputs : Inputs = inputs_of (env_of v c) in
    let meant = rest_meant ns [] ns (reaches nodes term) no_nodes inputs v start parts.truth parts.follows
    (λ p m w l e f. ap bits_or_zero (sourced.looked p m w l f e)) (λ p l e. absurd (omega arith)) in
    let widths : EnvFits (env_of v c) nodes
    = λ place m w x e f. let owner = sourced.known m x f in
    input_width nodes owner.place place m x.width w top.ordered (there nodes (term.0 + 1) owner.place (Input m x.width) owner.there) e in
    record {
      widths = widths;
      numbers = λ place m w e. fits nodes v c place m w e widths (given_for (env_of v c) m) refl;
      zero = term_bit nodes term v inputs top meant ∙ ap bit_of parts.literal_is;
    } where
      fits : (nodes : List Node) (v : ℕ → Bool) (c : Circuit) (place m w : ℕ) → slice_get nodes place ≡ Some (Input m w) → EnvFits (env_of v c) nodes
          → (x : Option Number) → given_for (env_of v c) m ≡ x → inputs_of (env_of v c) m < 2 ^ w
      fits nodes v c place m w e widths None g = subst (λ z. z < 2 ^ w) (sym (ap bits_or_zero g)) (pow_pos w)
      fits nodes v c place m w e widths (Some x) g =
          let width : x.width ≡ w = widths place m w x e g in
          subst (λ z. z < 2 ^ w) (sym (ap bits_or_zero g)) (subst (λ z. x.bits < 2 ^ z) width (given_below v c.sources m x g))

zero_bit : (b : Bool) → bit_of b ≡ 0 → b ≡ false
zero_bit true e = absurd (omega (arith, e))
zero_bit false e = refl

-- where the term is 0 there are truth values that satisfy its clauses
pub zero_is_satisfied : (nodes : List Node) (term : Id) (inputs : Inputs) → IsBank nodes → HasWidth nodes term 1 → InputsFit inputs nodes →
    (node_value_of inputs nodes term.0).bits ≡ 0 →
    (v : ℕ → Bool) × SatisfiesAll v (translated nodes term).clauses
zero_is_satisfied nodes term inputs b h fit z =
    let top = is_top nodes term b h in
    let ns : List Node = up_to term nodes in
    let c : Circuit = circuit_of nodes term in
    let start = begin nodes term top in
    let nothing : Found ns (reaches nodes term) inputs no_nodes =
    record { it = λ k. true; truth = refl; follows = tt; meant = λ p l e. absurd (omega arith) } in
    let found = found_rest ns [] ns (reaches nodes term) inputs no_nodes start
    (λ place m w e. fit place m w (there nodes (term.0 + 1) place (Input m w) e)) nothing in
    let v : ℕ → Bool = found.it in
    let low = zero_bit (value_of v (lowest (bits_at c.table term))) (sym (term_bit nodes term v inputs top found.meant) ∙ z) in
    (v, satisfied v (circuit_clauses c term) (parts_all v c term (record { truth = found.truth; follows = found.follows; literal_is = low })))

pub satisfiable_exactly : (nodes : List Node) (term : Id) → IsBank nodes → HasWidth nodes term 1 → AreExact nodes term (translated nodes term).clauses
satisfiable_exactly nodes term b h = (
  λ s. (environment_by s.0 (translated nodes term).sources, satisfying_is_zero nodes term s.0 b h s.1),
  λ e. zero_is_satisfied nodes term (inputs_of e.0) b h e.1.numbers e.1.zero,
)
