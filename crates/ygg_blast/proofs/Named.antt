-- The variables of a term's clauses are numbered from 1.
use Rattle.std.proofs.Common.{
  ◌≡◌,
  ◌<◌,
  ℕ,
  zero,
  suc,
  ◌+◌,
  ◌-◌,
  ◌/◌,
  ◌%◌,
  ◌^◌,
  ◌==◌,
  Bool,
  true,
  false,
  if◌then◌else◌,
  List,
  [],
  ◌∷◌,
  ◌++◌,
  length,
  take,
  drop,
  replicate,
  map,
  get_or,
  All,
  Result,
  Ok,
  Err,
  IfOk,
  sym,
  subst,
  arith,
}
use Rattle.std.proofs.lemmas.List.Elements.{All-nil, All-cons}
use Rattle.ygg_cnf.specs.declared.lit.Lit.{Lit}
use Rattle.std.specs.List.{list_any}
use Rattle.ygg_cnf.specs.Literals.{complement, is_same, with_literal, with_literals, once}
use Rattle.ygg_value.specs.declared.operation.Op.{Op}
use Rattle.ygg_value.specs.declared.operation.Op.TheVariants as op
use Rattle.ygg_bank.specs.declared.node.Id.{Id}
use Rattle.ygg_bank.specs.declared.node.Node.{Node}
use Rattle.ygg_bank.specs.declared.node.Node.TheVariants.{Input, Const, Bin, Not, Resize, Pick}
use Rattle.ygg_gates.specs.Circuits.{Out, literal, placed, either, complements, true_literal, false_literal}
use Rattle.ygg_gates.specs.Clauses.{clauses_from, gate_rows, gate_clauses}
use Rattle.ygg_gates.specs.Rows.{
  free_bits,
  constant_bits,
  joined,
  joined_each,
  added_bit,
  Sum,
  added,
  moved_up,
  moved,
  multiplied_bit,
  multiplied,
  equal_bits,
  less,
  any_bit,
  near,
  shifted_near,
  shifted,
  operation,
}
use Rattle.ygg_gates.specs.Groups.{
  Circuit,
  Translated,
  circuit_clauses,
  circuit_of,
  bits_at,
  lowest,
  no_nodes,
  node_bits,
  reaches,
  translated,
  up_to,
  with_node,
  with_nodes,
}
use Rattle.ygg_gates.specs.declared.gate.Carried.{Carried}
use Rattle.ygg_gates.specs.declared.gate.Gate.{Gate}
use Rattle.ygg_gates.specs.declared.gate.Gate.TheVariants.{Free, And, Xor, Mux}
use Rattle.ygg_gates.specs.declared.gate.Joint.{Joint}
use Rattle.ygg_gates.specs.declared.gate.Joint.TheVariants as joint
use Rattle.ygg_gates.specs.declared.gate.Way.{Way}
use Rattle.ygg_gates.specs.declared.gate.Way.TheVariants.{Up, Down}

-- the literal's variable has a number from 1 on
abbrev pub IsNamed : Lit → Type 0
IsNamed x = 0 < x.var

abbrev AreNamed : List Lit → Type 0
AreNamed [] = Unit {0}
AreNamed (x ∷ xs) = IsNamed x × AreNamed xs

-- those that a gate reads
abbrev Reads : Gate → Type 0
Reads Free = Unit {0}
Reads (And a b) = IsNamed a × IsNamed b
Reads (Xor a b) = IsNamed a × IsNamed b
Reads (Mux c a b) = IsNamed c × IsNamed a × IsNamed b

abbrev AllRead : List Gate → Type 0
AllRead [] = Unit {0}
AllRead (g ∷ gs) = Reads g × AllRead gs

-- what a step answered is named, and the gates after it read such literals
record Names {A : Type 0} (N : A → Type 0) (out : Out A) : Type 0 where
  value : N out.value
  gates : AllRead out.gates

one_named : IsNamed true_literal
one_named = omega arith

false_named : IsNamed false_literal
false_named = omega arith

read_more : (gs : List Gate) (g : Gate) → AllRead gs → Reads g → AllRead (gs ++ g ∷ [])
read_more [] g a h = (h, tt)
read_more (f ∷ gs) g a h = (a.0, read_more gs g a.1 h)

named_append : (xs ys : List Lit) → AreNamed xs → AreNamed ys → AreNamed (xs ++ ys)
named_append [] ys p q = q
named_append (x ∷ xs) ys p q = (p.0, named_append xs ys p.1 q)

named_replicate : (n : ℕ) (x : Lit) → IsNamed x → AreNamed (replicate n x)
named_replicate zero x h = tt
named_replicate (suc n) x h = (h, named_replicate n x h)

named_take : (n : ℕ) (xs : List Lit) → AreNamed xs → AreNamed (take n xs)
named_take zero xs p = tt
named_take (suc n) [] p = tt
named_take (suc n) (x ∷ xs) p = (p.0, named_take n xs p.1)

named_drop : (n : ℕ) (xs : List Lit) → AreNamed xs → AreNamed (drop n xs)
named_drop zero xs p = p
named_drop (suc n) [] p = tt
named_drop (suc n) (x ∷ xs) p = named_drop n xs p.1

named_complements : (xs : List Lit) → AreNamed xs → AreNamed (complements xs)
named_complements [] p = tt
named_complements (x ∷ xs) p = (p.0, named_complements xs p.1)

named_moved : (way : Way) (places : ℕ) (xs : List Lit) → AreNamed xs → AreNamed (moved way places xs)
named_moved Up places xs p = named_append (replicate places false_literal) (take (length xs - places) xs)
    (named_replicate places false_literal false_named) (named_take (length xs - places) xs p)
named_moved Down places xs p = named_append (drop places xs) (replicate places false_literal) (named_drop places xs p)
    (named_replicate places false_literal false_named)

placed_names : (g : Gate) (old : List Gate) → AllRead old → Reads g → Names IsNamed (placed g old)
placed_names g old a h = record { value = omega arith; gates = read_more old g a h }

either_names : (a b : Lit) (old : List Gate) → AllRead old → IsNamed a → IsNamed b → Names IsNamed (either a b old)
either_names a b old r p q =
    let o = placed_names (And (complement a) (complement b)) old r (p, q) in
    record { value = o.value; gates = o.gates }

abbrev JointReads : Joint → Type 0
JointReads joint.And = Unit {0}
JointReads joint.Or = Unit {0}
JointReads joint.Xor = Unit {0}
JointReads (joint.Pick t) = IsNamed t

joined_names : (j : Joint) (a b : Lit) (old : List Gate) → JointReads j → AllRead old → IsNamed a → IsNamed b → Names IsNamed (joined j a b old)
joined_names joint.And a b old j r p q = placed_names (And a b) old r (p, q)
joined_names joint.Or a b old j r p q = either_names a b old r p q
joined_names joint.Xor a b old j r p q = placed_names (Xor a b) old r (p, q)
joined_names (joint.Pick t) a b old j r p q = placed_names (Mux t a b) old r (j, p, q)

joined_each_names : (j : Joint) (xs ys : List Lit) (old : List Gate) → JointReads j → AllRead old → AreNamed xs → AreNamed ys →
    Names AreNamed (joined_each j xs ys old)
joined_each_names j [] ys old t r p q = record { value = tt; gates = r }
joined_each_names j (x ∷ xs) [] old t r p q = record { value = tt; gates = r }
joined_each_names j (x ∷ xs) (y ∷ ys) old t r p q =
    let o : Out Lit = joined j x y old in
    let one = joined_names j x y old t r p.0 q.0 in
    let rest = joined_each_names j xs ys o.gates t one.gates p.1 q.1 in
    record { value = (one.value, rest.value); gates = rest.gates }

abbrev CarriedNamed : Carried → Type 0
CarriedNamed c = IsNamed c.bit × IsNamed c.carry

added_bit_names : (a b c : Lit) (old : List Gate) → AllRead old → IsNamed a → IsNamed b → IsNamed c → Names CarriedNamed (added_bit a b c old)
added_bit_names a b c old r p q s =
    let x : Out Lit = placed (Xor a b) old in
    let nx = placed_names (Xor a b) old r (p, q) in
    let d : Out Lit = placed (Xor x.value c) x.gates in
    let nd = placed_names (Xor x.value c) x.gates nx.gates (nx.value, s) in
    let e : Out Lit = placed (And a b) d.gates in
    let ne = placed_names (And a b) d.gates nd.gates (p, q) in
    let t : Out Lit = placed (And x.value c) e.gates in
    let nt = placed_names (And x.value c) e.gates ne.gates (nx.value, s) in
    let k = either_names e.value t.value t.gates nt.gates ne.value nt.value in
    record { value = (nd.value, k.value); gates = k.gates }

abbrev SumNamed : Sum → Type 0
SumNamed s = AreNamed s.bits × IsNamed s.carry

added_names : (xs ys : List Lit) (c : Lit) (old : List Gate) → AllRead old → AreNamed xs → AreNamed ys → IsNamed c → Names SumNamed (added xs ys c old)
added_names [] ys c old r p q s = record { value = (tt, s); gates = r }
added_names (x ∷ xs) [] c old r p q s = record { value = (tt, s); gates = r }
added_names (x ∷ xs) (y ∷ ys) c old r p q s =
    let o : Out Carried = added_bit x y c old in
    let one = added_bit_names x y c old r p.0 q.0 s in
    let own = one.value in
    let rest = added_names xs ys o.value.carry o.gates one.gates p.1 q.1 own.1 in
    let more = rest.value in
    record { value = ((own.0, more.0), more.1); gates = rest.gates }

sum_names : (xs ys : List Lit) (c : Lit) (old : List Gate) → AllRead old → AreNamed xs → AreNamed ys → IsNamed c →
    Names AreNamed (record { value = (added xs ys c old).value.bits; gates = (added xs ys c old).gates })
sum_names xs ys c old r p q s = let a = added_names xs ys c old r p q s in let v = a.value in record { value = v.0; gates = a.gates }

multiplied_bit_names : (xs so_far : List Lit) (place : ℕ) (d : Lit) (old : List Gate) → AllRead old → AreNamed xs → AreNamed so_far → IsNamed d →
    Names AreNamed (multiplied_bit xs so_far place d old)
multiplied_bit_names xs so_far place d old r p q s =
    let part : Out (List Lit) = joined_each joint.And (replicate (length xs) d) (moved_up place xs) old in
    let np = joined_each_names joint.And (replicate (length xs) d) (moved_up place xs) old tt r (named_replicate (length xs) d s) (named_moved Up place xs p) in
    sum_names so_far part.value false_literal part.gates np.gates q np.value false_named

multiplied_names : (xs so_far : List Lit) (place : ℕ) (ds : List Lit) (old : List Gate) → AllRead old → AreNamed xs → AreNamed so_far → AreNamed ds →
    Names AreNamed (multiplied xs so_far place ds old)
multiplied_names xs so_far place [] old r p q s = record { value = q; gates = r }
multiplied_names xs so_far place (d ∷ ds) old r p q s =
    let o : Out (List Lit) = multiplied_bit xs so_far place d old in
    let one = multiplied_bit_names xs so_far place d old r p q s.0 in
    multiplied_names xs o.value (place + 1) ds o.gates one.gates p one.value s.1

equal_names : (so_far : Lit) (xs ys : List Lit) (old : List Gate) → AllRead old → IsNamed so_far → AreNamed xs → AreNamed ys →
    Names IsNamed (equal_bits so_far xs ys old)
equal_names so_far [] ys old r s p q = record { value = s; gates = r }
equal_names so_far (x ∷ xs) [] old r s p q = record { value = s; gates = r }
equal_names so_far (x ∷ xs) (y ∷ ys) old r s p q =
    let d : Out Lit = placed (Xor x y) old in
    let nd = placed_names (Xor x y) old r (p.0, q.0) in
    let o : Out Lit = placed (And so_far (complement d.value)) d.gates in
    let no = placed_names (And so_far (complement d.value)) d.gates nd.gates (s, nd.value) in
    equal_names o.value xs ys o.gates no.gates no.value p.1 q.1

less_names : (xs ys : List Lit) (old : List Gate) → AllRead old → AreNamed xs → AreNamed ys → Names IsNamed (less xs ys old)
less_names xs ys old r p q =
    let s = added_names xs (complements ys) true_literal old r p (named_complements ys q) one_named in
    let v = s.value in
    record { value = v.1; gates = s.gates }

any_names : (so_far : Lit) (ds : List Lit) (old : List Gate) → AllRead old → IsNamed so_far → AreNamed ds → Names IsNamed (any_bit so_far ds old)
any_names so_far [] old r s p = record { value = s; gates = r }
any_names so_far (d ∷ ds) old r s p =
    let o : Out Lit = either so_far d old in
    let one = either_names so_far d old r s p.0 in
    any_names o.value ds o.gates one.gates one.value p.1

shifted_near_names : (way : Way) (value : List Lit) (place : ℕ) (ds : List Lit) (old : List Gate) → AllRead old → AreNamed value → AreNamed ds →
    Names AreNamed (shifted_near way value place ds old)
shifted_near_names way value place [] old r p q = record { value = p; gates = r }
shifted_near_names way value place (d ∷ ds) old r p q =
    let o : Out (List Lit) = joined_each (joint.Pick d) (moved way (2 ^ place) value) value old in
    let one = joined_each_names (joint.Pick d) (moved way (2 ^ place) value) value old q.0 r (named_moved way (2 ^ place) value p) p in
    shifted_near_names way o.value (place + 1) ds o.gates one.gates one.value q.1

shifted_names : (way : Way) (xs amount : List Lit) (old : List Gate) → AllRead old → AreNamed xs → AreNamed amount → Names AreNamed (shifted way xs amount old)
shifted_names way xs amount old r p q =
    let k : ℕ = near (length xs) 0 amount in
    let v : Out (List Lit) = shifted_near way xs 0 (take k amount) old in
    let nv = shifted_near_names way xs 0 (take k amount) old r p (named_take k amount q) in
    let o : Out Lit = any_bit false_literal (drop k amount) v.gates in
    let no = any_names false_literal (drop k amount) v.gates nv.gates false_named (named_drop k amount q) in
    joined_each_names joint.And v.value (replicate (length v.value) (complement o.value)) o.gates tt no.gates nv.value
    (named_replicate (length v.value) (complement o.value) no.value)

-- one bit, as it is or turned round
single_names : (out : Out Lit) → Names IsNamed out → Names AreNamed (record { value = out.value ∷ []; gates = out.gates })
single_names out h = record { value = (h.value, tt); gates = h.gates }

turned_names : (out : Out Lit) → Names IsNamed out → Names AreNamed (record { value = complement out.value ∷ []; gates = out.gates })
turned_names out h = record { value = (h.value, tt); gates = h.gates }

operation_names : (o : Op) (xs ys : List Lit) (old : List Gate) → AllRead old → AreNamed xs → AreNamed ys → Names AreNamed (operation o xs ys old)
operation_names op.Add xs ys old r p q = sum_names xs ys false_literal old r p q false_named
operation_names op.Sub xs ys old r p q = sum_names xs (complements ys) true_literal old r p (named_complements ys q) one_named
operation_names op.Mul xs ys old r p q = multiplied_names xs (replicate (length xs) false_literal) 0 ys old r p
    (named_replicate (length xs) false_literal false_named) q
operation_names op.And xs ys old r p q = joined_each_names joint.And xs ys old tt r p q
operation_names op.Or xs ys old r p q = joined_each_names joint.Or xs ys old tt r p q
operation_names op.Xor xs ys old r p q = joined_each_names joint.Xor xs ys old tt r p q
operation_names op.Shl xs ys old r p q = shifted_names Up xs ys old r p q
operation_names op.Shr xs ys old r p q = shifted_names Down xs ys old r p q
operation_names op.Eq xs ys old r p q = single_names (equal_bits true_literal xs ys old) (equal_names true_literal xs ys old r one_named p q)
operation_names op.Ne xs ys old r p q = turned_names (equal_bits true_literal xs ys old) (equal_names true_literal xs ys old r one_named p q)
operation_names op.Lt xs ys old r p q = single_names (less xs ys old) (less_names xs ys old r p q)
operation_names op.Le xs ys old r p q = turned_names (less ys xs old) (less_names ys xs old r q p)
operation_names op.Gt xs ys old r p q = single_names (less ys xs old) (less_names ys xs old r q p)
operation_names op.Ge xs ys old r p q = turned_names (less xs ys old) (less_names xs ys old r p q)
operation_names op.Imp xs ys old r p q = joined_each_names joint.Or (complements xs) ys old tt r (named_complements xs p) q

free_names : (w : ℕ) (old : List Gate) → AllRead old → Names AreNamed (free_bits w old)
free_names zero old r = record { value = tt; gates = r }
free_names (suc w) old r =
    let d : Out Lit = placed Free old in
    let one = placed_names Free old r tt in
    let rest = free_names w d.gates one.gates in
    record { value = (one.value, rest.value); gates = rest.gates }

truth_named : (b : Bool) → IsNamed (if b then true_literal else false_literal)
truth_named true = one_named
truth_named false = false_named

constant_named : (w bits : ℕ) → AreNamed (constant_bits w bits)
constant_named zero bits = tt
constant_named (suc w) bits = (truth_named (bits % 2 == 1), constant_named w (bits / 2))

lowest_named : (xs : List Lit) → AreNamed xs → IsNamed (lowest xs)
lowest_named [] p = false_named
lowest_named (x ∷ xs) p = p.0

abbrev TableNamed : List (List Lit) → Type 0
TableNamed [] = Unit {0}
TableNamed (xs ∷ table) = AreNamed xs × TableNamed table

table_more : (table : List (List Lit)) (xs : List Lit) → TableNamed table → AreNamed xs → TableNamed (table ++ xs ∷ [])
table_more [] xs t p = (p, tt)
table_more (ys ∷ table) xs t p = (t.0, table_more table xs t.1 p)

get_named : (table : List (List Lit)) (place : ℕ) → TableNamed table → AreNamed (get_or table place [])
get_named [] zero t = tt
get_named [] (suc place) t = tt
get_named (xs ∷ table) zero t = t.0
get_named (xs ∷ table) (suc place) t = get_named table place t.1

at_named : (table : List (List Lit)) (a : Id) → TableNamed table → AreNamed (bits_at table a)
at_named table a t = get_named table a.0 t

node_names : (table : List (List Lit)) (n : Node) (old : List Gate) → TableNamed table → AllRead old → Names AreNamed (node_bits table n old)
node_names table (Input m w) old t r = free_names w old r
node_names table (Const k) old t r = record { value = constant_named k.width k.bits; gates = r }
node_names table (Bin o a b) old t r = operation_names o (bits_at table a) (bits_at table b) old r (at_named table a t) (at_named table b t)
node_names table (Not a) old t r = record { value = named_complements (bits_at table a) (at_named table a t); gates = r }
node_names table (Resize a w) old t r =
    let xs : List Lit = bits_at table a in
    record {
      value = named_append (take w xs) (replicate (w - length xs) false_literal) (named_take w xs (at_named table a t))
          (named_replicate (w - length xs) false_literal false_named);
      gates = r;
    }
node_names table (Pick c a b) old t r =
    joined_each_names (joint.Pick (lowest (bits_at table c))) (bits_at table a) (bits_at table b) old
    (lowest_named (bits_at table c) (at_named table c t)) r (at_named table a t) (at_named table b t)

-- a circuit's bits are named, and its gates read such literals
record CircuitNamed (c : Circuit) : Type 0 where
  table : TableNamed c.table
  gates : AllRead c.gates

next_named : (b : Bool) (n : Node) (c : Circuit) → CircuitNamed c → CircuitNamed (with_node b n c)
next_named false n c h = record { table = table_more c.table [] h.table tt; gates = h.gates }
next_named true n c h =
    let out : Out (List Lit) = node_bits c.table n c.gates in
    let o = node_names c.table n c.gates h.table h.gates in
    record { table = table_more c.table out.value h.table o.value; gates = o.gates }

rest_named : (r : ℕ → Bool) (ns : List Node) (c : Circuit) → CircuitNamed c → CircuitNamed (with_nodes r ns c)
rest_named r [] c h = h
rest_named r (n ∷ ns) c h = rest_named r ns (with_node (r (length c.table)) n c) (next_named (r (length c.table)) n c h)

-- each literal of each clause is named
abbrev Numbered : List (List Lit) → Type 0
Numbered = All (All IsNamed)

all_named : (xs : List Lit) → AreNamed xs → All IsNamed xs
all_named [] p = All-nil IsNamed
all_named (x ∷ xs) p = All-cons IsNamed x xs p.0 (all_named xs p.1)

abbrev ClausesNamed : List (List Lit) → Type 0
ClausesNamed [] = Unit {0}
ClausesNamed (c ∷ cs) = AreNamed c × ClausesNamed cs

numbered : (cs : List (List Lit)) → ClausesNamed cs → Numbered cs
numbered [] p = All-nil (All IsNamed)
numbered (c ∷ cs) p = All-cons (All IsNamed) c cs (all_named c p.0) (numbered cs p.1)

clauses_append : (cs ds : List (List Lit)) → ClausesNamed cs → ClausesNamed ds → ClausesNamed (cs ++ ds)
clauses_append [] ds p q = q
clauses_append (c ∷ cs) ds p q = (p.0, clauses_append cs ds p.1 q)

rows_named : (o : Lit) (g : Gate) → IsNamed o → Reads g → ClausesNamed (gate_rows o g)
rows_named o Free h r = tt
rows_named o (And a b) h r = ((h, (r.0, tt)), ((h, (r.1, tt)), ((h, (r.0, (r.1, tt))), tt)))
rows_named o (Xor a b) h r = ((h, (r.0, (r.1, tt))), ((h, (r.0, (r.1, tt))), ((h, (r.0, (r.1, tt))), ((h, (r.0, (r.1, tt))), tt))))
rows_named o (Mux c a b) h r = ((h, (r.0, (r.1, tt))), ((h, (r.0, (r.1, tt))), ((h, (r.0, (r.2, tt))), ((h, (r.0, (r.2, tt))), tt))))

-- keeping each literal once leaves named literals alone
with_named : (clause : List Lit) (x : Lit) → AreNamed clause → IsNamed x → AreNamed (with_literal clause x)
with_named clause x h k = elim (list_any (is_same x) clause) as (λ b. AreNamed (if b then clause else clause ++ x ∷ []))
    [ true ↦ h | false ↦ named_append clause (x ∷ []) h (k, tt) ]

with_all_named : (xs clause : List Lit) → AreNamed clause → AreNamed xs → AreNamed (with_literals clause xs)
with_all_named [] clause h k = h
with_all_named (x ∷ xs) clause h k = with_all_named xs (with_literal clause x) (with_named clause x h k.0) k.1

each_once_named : (cs : List (List Lit)) → ClausesNamed cs → ClausesNamed (map once cs)
each_once_named [] h = tt
each_once_named (c ∷ cs) h = (with_all_named c [] tt h.0, each_once_named cs h.1)

gate_named : (o : Lit) (g : Gate) → IsNamed o → Reads g → ClausesNamed (gate_clauses o g)
gate_named o g h r = each_once_named (gate_rows o g) (rows_named o g h r)

gates_named : (v : ℕ) (gs : List Gate) → 0 < v → AllRead gs → ClausesNamed (clauses_from v gs)
gates_named v [] h r = tt
gates_named v (g ∷ gs) h r = clauses_append (gate_clauses (literal v) g) (clauses_from (suc v) gs) (gate_named (literal v) g h r.0)
    (gates_named (suc v) gs (omega arith) r.1)

circuit_named : (c : Circuit) (term : Id) → CircuitNamed c → ClausesNamed (circuit_clauses c term)
circuit_named c term h =
    let first : List (List Lit) = (true_literal ∷ []) ∷ [] in
    let gates : List (List Lit) = clauses_from 2 c.gates in
    let last : List (List Lit) = (complement (lowest (bits_at c.table term)) ∷ []) ∷ [] in
    clauses_append (first ++ gates) last (clauses_append first gates ((one_named, tt), tt) (gates_named 2 c.gates (omega arith) h.gates))
    ((lowest_named (bits_at c.table term) (at_named c.table term h.table), tt), tt)

-- the variables of a term's clauses are numbered from 1
translated_numbered : (nodes : List Node) (term : Id) → Numbered (translated nodes term).clauses
translated_numbered nodes term =
    numbered (translated nodes term).clauses (circuit_named (circuit_of nodes term) term
    (rest_named (reaches nodes term) (up_to term nodes) no_nodes (record { table = tt; gates = tt })))

pub all_numbered : {E : Type 0} (nodes : List Node) (term : Id) (result : Result Translated E) → IfOk result (λ b. b ≡ translated nodes term) →
    IfOk result (λ b. All (All (λ (x : Lit). 0 < x.var)) b.clauses)
all_numbered nodes term (Err e) f = tt
all_numbered nodes term (Ok b) f = subst (λ (z : Translated). Numbered z.clauses) (sym f) (translated_numbered nodes term)
