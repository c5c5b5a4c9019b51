-- What the gates of each node mean.
use Rattle.std.proofs.Common.{
  ◌≡◌,
  ◌<◌,
  ◌≤◌,
  ℕ,
  zero,
  suc,
  ◌+◌,
  ◌-◌,
  ◌*◌,
  ◌/◌,
  ◌%◌,
  ◌^◌,
  ◌==◌,
  Bool,
  true,
  false,
  cond,
  if◌then◌else◌,
  List,
  [],
  ◌∷◌,
  length,
  take,
  replicate,
  ⊎_elim,
  sym,
  subst,
  ap,
  ◌∙◌,
  arith,
  refl,
  length-append,
}
use Rattle.std.proofs.lemmas.Bool.{cases_lt, eq-eqb, ne_eqb}
use Rattle.std.proofs.lemmas.List.{length-map, length-take, length-replicate}
use Rattle.ygg_cnf.specs.declared.lit.Lit.{Lit}
use Rattle.ygg_value.specs.Number.{Number}
use Rattle.ygg_value.specs.Words.{bit_of, apply_bits, result_width}
use Rattle.ygg_bank.specs.Nodes.{width_at, node_width, widths_of, CanMake}
use Rattle.ygg_bank.specs.Values.{Inputs, Values, node_value}
use Rattle.ygg_bank.specs.declared.node.Id.{Id}
use Rattle.ygg_bank.specs.declared.node.Node.{Node}
use Rattle.ygg_bank.specs.declared.node.Node.TheVariants.{Input, Const, Bin, Not, Resize, Pick}
use Rattle.ygg_gates.specs.Circuits.{Out, next_variable, placed, complements, true_literal, false_literal}
use Rattle.ygg_gates.specs.Groups.{bits_at, lowest, node_bits}
use Rattle.ygg_gates.specs.Rows.{free_bits, constant_bits, resized_bits, joined_each, operation}
use Rattle.ygg_gates.specs.Sources.{number_from}
use Rattle.ygg_gates.specs.declared.gate.Gate.{Gate}
use Rattle.ygg_gates.specs.declared.gate.Gate.TheVariants.{Free}
use Rattle.ygg_gates.specs.declared.gate.Joint.TheVariants as joint
use Rattle.ygg_gates.proofs.Truths.{value_of}
use Rattle.ygg_gates.proofs.Following.{Below}
use Rattle.ygg_gates.proofs.Joints.{joined_each_good}
use Rattle.ygg_gates.proofs.BitNumbers.{
  number,
  AllBelow,
  all_below_append,
  all_below_replicate,
  all_below_take,
  all_below_complements,
  AreBits,
  double,
  number_complements,
  number_resized,
  true_bit,
  false_bit,
}
use Rattle.ygg_gates.proofs.Operations.{IsResult, CanOperate, operation_good}
use Rattle.ygg_gates.proofs.CircuitSteps.{Good, done, follow, changed, placed_good}

-- new variables, and the number that they name
pub free_good : (width : ℕ) (old : List Gate) → Good (List Lit) (AreBits width) (λ v os. number v os ≡ number_from v (next_variable old) width) old
    (free_bits width old)
free_good zero old = done (AreBits 0) (λ v os. number v os ≡ number_from v (next_variable old) 0) old [] (record { count = refl; below = tt }) (λ v t. refl)
free_good (suc width) old =
    let one : Out Lit = placed Free old in
    let g = placed_good Free old tt in
    let rest : Out (List Lit) = free_bits width one.gates in
    let next : next_variable one.gates ≡ next_variable old + 1 = omega (arith, length-append old (Free ∷ [])) in
    follow (AreBits (suc width)) (λ v os. number v os ≡ number_from v (next_variable old) (suc width)) old one rest (one.value ∷ rest.value) g
    (free_good width one.gates)
    (λ l b d. record { count = (let c = d.count in omega (arith, c)); below = (omega arith, d.below) })
    (λ v t e f. ap (λ z. bit_of (v (next_variable old)) + 2 * z) (f ∙ ap (λ k. number_from v k width) next))

-- the bits of a constant
lowest_bit : (v : ℕ → Bool) (n : ℕ) → v 1 ≡ true → bit_of (value_of v (if n % 2 == 1 then true_literal else false_literal)) ≡ n % 2
lowest_bit v n t =
    ⊎_elim
    (λ (l : n % 2 < 1). let z : n % 2 ≡ 0 = omega arith in ap (λ b. bit_of (value_of v (if b == 1 then true_literal else false_literal))) z
    ∙ false_bit v t ∙ sym z)
    (λ (l : 1 ≤ n % 2). let z : n % 2 ≡ 1 = omega arith in ap (λ b. bit_of (value_of v (if b == 1 then true_literal else false_literal))) z
    ∙ true_bit v t ∙ sym z)
    (cases_lt (n % 2) 1)

number_constant : (v : ℕ → Bool) (w n : ℕ) → v 1 ≡ true → n < 2 ^ w → number v (constant_bits w n) ≡ n
number_constant v zero n t l = omega arith
number_constant v (suc w) n t l =
    let d = double w in
    let r = number_constant v w (n / 2) t (omega (arith, d)) in
    let b = lowest_bit v n t in
    omega (arith, r, b)

either_below : (b : Bool) (n : ℕ) → 1 < n → Below n (if b then true_literal else false_literal)
either_below true n l = l
either_below false n l = l

constant_are_bits : (w n bits : ℕ) → 1 < n → AreBits w n (constant_bits w bits)
constant_are_bits zero n bits l = record { count = refl; below = tt }
constant_are_bits (suc w) n bits l =
    let r = constant_are_bits w n (bits / 2) l in
    record { count = (let c = r.count in omega (arith, c)); below = (either_below (bits % 2 == 1) n l, r.below) }

resized_are_bits : (w n : ℕ) (xs : List Lit) → 1 < n → AllBelow n xs → AreBits w n (resized_bits w xs)
resized_are_bits w n xs l h = record {
  count = omega (arith, length-append (take w xs) (replicate (w - length xs) false_literal), length-take w xs, length-replicate (w - length xs) false_literal);
  below = all_below_append n (take w xs) (replicate (w - length xs) false_literal) (all_below_take n w xs h)
      (all_below_replicate n (w - length xs) false_literal l);
}

lowest_below : (n : ℕ) (xs : List Lit) → 1 < n → AllBelow n xs → Below n (lowest xs)
lowest_below n [] l h = l
lowest_below n (x ∷ xs) l h = h.0

-- the bits of a child, as wide as the child is
abbrev pub ChildBits : List Node → List (List Lit) → ℕ → Id → Type 0
ChildBits before table n a = AreBits (width_at (widths_of before) a) n (bits_at table a)

abbrev pub ChildrenBits : List Node → List (List Lit) → ℕ → Node → Type 0
ChildrenBits before table n (Input m w) = Unit {0}
ChildrenBits before table n (Const k) = Unit {0}
ChildrenBits before table n (Bin o a b) = ChildBits before table n a × ChildBits before table n b
ChildrenBits before table n (Not a) = ChildBits before table n a
ChildrenBits before table n (Resize a w) = ChildBits before table n a
ChildrenBits before table n (Pick t a b) = ChildBits before table n t × ChildBits before table n a × ChildBits before table n b

-- what a node's bits are, from those of its children; of an input, whose first variable this is, from its variables
abbrev pub NodeMeans : List (List Lit) → ℕ → Node → (ℕ → Bool) → List Lit → Type 0
NodeMeans table first (Input m w) v os = number v os ≡ number_from v first w
NodeMeans table first (Const k) v os = number v os ≡ k.bits
NodeMeans table first (Bin o a b) v os = IsResult o (bits_at table a) (bits_at table b) v os
NodeMeans table first (Not a) v os = number v os + number v (bits_at table a) + 1 ≡ 2 ^ length (bits_at table a)
NodeMeans table first (Resize a w) v os = number v os ≡ number v (bits_at table a) % 2 ^ w
NodeMeans table first (Pick t a b) v os = number v os ≡ cond (value_of v (lowest (bits_at table t))) (number v (bits_at table a))
    (number v (bits_at table b))

pub node_good : (before : List Node) (table : List (List Lit)) (n : Node) (old : List Gate) → CanMake before n →
    ChildrenBits before table (next_variable old) n →
    Good (List Lit) (AreBits (node_width (widths_of before) n)) (NodeMeans table (next_variable old) n) old (node_bits table n old)
node_good before table (Input m w) old c d = free_good w old
node_good before table (Const k) old c d =
    done (AreBits k.width) (NodeMeans table (next_variable old) (Const k)) old (constant_bits k.width k.bits)
    (constant_are_bits k.width (next_variable old) k.bits (omega arith)) (λ v t. number_constant v k.width k.bits t c.fits)
node_good before table (Bin o a b) old c d =
    let xs : List Lit = bits_at table a in
    let ys : List Lit = bits_at table b in
    let one = d.0.count in
    let two = d.1.count in
    let can : CanOperate o (length xs) (length ys)
    = subst (λ z. CanOperate o z (length ys)) (sym one) (subst (λ z. CanOperate o (width_at (widths_of before) a) z) (sym two) c.widths) in
    let out : Out (List Lit) = operation o xs ys old in
    changed (AreBits (result_width o (width_at (widths_of before) a))) (IsResult o xs ys) old out out.value
    (operation_good o xs ys old can d.0.below d.1.below)
    (λ w. record { count = w.count ∙ ap (result_width o) one; below = w.below }) (λ v t e. e)
node_good before table (Not a) old c d =
    let xs : List Lit = bits_at table a in
    done (AreBits (width_at (widths_of before) a)) (NodeMeans table (next_variable old) (Not a)) old (complements xs)
    (record { count = length-map xs _ ∙ d.count; below = all_below_complements (next_variable old) xs d.below }) (λ v t. number_complements v xs)
node_good before table (Resize a w) old c d =
    let xs : List Lit = bits_at table a in
    done (AreBits w) (NodeMeans table (next_variable old) (Resize a w)) old (resized_bits w xs)
    (resized_are_bits w (next_variable old) xs (omega arith) d.below) (λ v t. number_resized v w xs t)
node_good before table (Pick t a b) old c d =
    let xs : List Lit = bits_at table a in
    let ys : List Lit = bits_at table b in
    let j = joint.Pick (lowest (bits_at table t)) in
    let p = d.1 in
    let q = d.2 in
    let out : Out (List Lit) = joined_each j xs ys old in
    changed (AreBits (width_at (widths_of before) a)) (NodeMeans table (next_variable old) (Pick t a b)) old out out.value
    (joined_each_good j xs ys old (p.count ∙ c.widths ∙ sym q.count)
    (lowest_below (next_variable old) (bits_at table t) (omega arith) d.0.below) p.below q.below)
    (λ w. record { count = w.count ∙ p.count; below = w.below }) (λ v t e. e)

-- a child's value is the number of its bits
pub record IsChild (vals : Values) (v : ℕ → Bool) (table : List (List Lit)) (a : Id) : Type 0 where
  pub width : (vals a.0).width ≡ length (bits_at table a)
  pub bits : (vals a.0).bits ≡ number v (bits_at table a)

abbrev pub AreChildren : Values → (ℕ → Bool) → List (List Lit) → Node → Type 0
AreChildren vals v table (Input m w) = Unit {0}
AreChildren vals v table (Const k) = Unit {0}
AreChildren vals v table (Bin o a b) = IsChild vals v table a × IsChild vals v table b
AreChildren vals v table (Not a) = IsChild vals v table a
AreChildren vals v table (Resize a w) = IsChild vals v table a
AreChildren vals v table (Pick t a b) = IsChild vals v table t × IsChild vals v table a × IsChild vals v table b × (length (bits_at table t) ≡ 1)

-- an input has the number of its bits
abbrev pub IsGiven : Inputs → (ℕ → Bool) → Node → List Lit → Type 0
IsGiven inputs v (Input m w) os = inputs m ≡ number v os
IsGiven inputs v _ os = Unit {0}

test_bit : (b : Bool) (n : ℕ) → n ≡ bit_of b → (n == 1) ≡ b
test_bit true n e = eq-eqb n 1 e
test_bit false n e = ne_eqb n 1 (λ f. absurd (omega (arith, e, f)))

lowest_test : (v : ℕ → Bool) (xs : List Lit) (n : ℕ) → length xs ≡ 1 → n ≡ number v xs → (n == 1) ≡ value_of v (lowest xs)
lowest_test v [] n l e = absurd (omega (arith, l))
lowest_test v (x ∷ []) n l e = test_bit (value_of v x) n (omega (arith, e))
lowest_test v (x ∷ (y ∷ ys)) n l e = absurd (omega (arith, l))

pick_bits : (c : Bool) (a b : Number) → (if c then a else b).bits ≡ cond c a.bits b.bits
pick_bits true a b = refl
pick_bits false a b = refl

-- a node's value is the number of its bits
pub node_value_is : (inputs : Inputs) (vals : Values) (v : ℕ → Bool) (table : List (List Lit)) (first : ℕ) (n : Node) (os : List Lit) →
    AreChildren vals v table n → IsGiven inputs v n os → NodeMeans table first n v os →
    (node_value inputs vals n).bits ≡ number v os
node_value_is inputs vals v table first (Input m w) os c g e = g
node_value_is inputs vals v table first (Const k) os c g e = sym e
node_value_is inputs vals v table first (Bin o a b) os c g e =
    let p = c.0 in
    let q = c.1 in
    ap (λ z. apply_bits o z (vals a.0).bits (vals b.0).bits) p.width ∙ ap (λ z. apply_bits o (length (bits_at table a)) z (vals b.0).bits) p.bits
    ∙ ap (apply_bits o (length (bits_at table a)) (number v (bits_at table a))) q.bits ∙ sym e
node_value_is inputs vals v table first (Not a) os c g e =
    let w : 2 ^ (vals a.0).width ≡ 2 ^ length (bits_at table a) = ap (λ z. 2 ^ z) c.width in
    let b = c.bits in
    omega (arith, w, b, e)
node_value_is inputs vals v table first (Resize a w) os c g e = ap (λ z. z % 2 ^ w) c.bits ∙ sym e
node_value_is inputs vals v table first (Pick t a b) os c g e =
    let p = c.0 in
    let q = c.1 in
    let r = c.2 in
    pick_bits ((vals t.0).bits == 1) (vals a.0) (vals b.0)
    ∙ ap (λ z. cond z (vals a.0).bits (vals b.0).bits) (lowest_test v (bits_at table t) (vals t.0).bits c.3 p.bits)
    ∙ ap (λ z. cond (value_of v (lowest (bits_at table t))) z (vals b.0).bits) q.bits
    ∙ ap (λ z. cond (value_of v (lowest (bits_at table t))) (number v (bits_at table a)) z) r.bits ∙ sym e
