-- What the gates of two bits mean, and those of two words, bit by bit.
use Rattle.std.proofs.Common.{
  ◌≡◌,
  ◌≤◌,
  ℕ,
  ◌+◌,
  ◌*◌,
  ◌^◌,
  Bool,
  true,
  false,
  cond,
  ◌&&◌,
  ◌||◌,
  bit_and,
  bit_or,
  bit_xor,
  List,
  [],
  ◌∷◌,
  length,
  sym,
  ap,
  ◌∙◌,
  arith,
  refl,
}
use Rattle.std.proofs.lemmas.Nat.{and_block, or_block, xor_block}
use Rattle.ygg_cnf.specs.declared.lit.Lit.{Lit}
use Rattle.ygg_value.specs.Words.{bit_of}
use Rattle.ygg_gates.specs.Circuits.{Out, next_variable}
use Rattle.ygg_gates.specs.Rows.{joined, joined_each}
use Rattle.ygg_gates.specs.declared.gate.Gate.{Gate}
use Rattle.ygg_gates.specs.declared.gate.Gate.TheVariants.{And, Xor, Mux}
use Rattle.ygg_gates.specs.declared.gate.Joint.{Joint}
use Rattle.ygg_gates.specs.declared.gate.Joint.TheVariants as joint
use Rattle.ygg_gates.proofs.Truths.{value_of, differ}
use Rattle.ygg_gates.proofs.Following.{Below}
use Rattle.ygg_gates.proofs.BitNumbers.{number, AllBelow, all_below_more, AreBits, bit_small}
use Rattle.ygg_gates.proofs.CircuitSteps.{Good, done, follow, placed_good, either_good, grows_length}

-- what joins two truth values
abbrev pub joint_value : (ℕ → Bool) → Joint → Bool → Bool → Bool
joint_value v joint.And a b = a && b
joint_value v joint.Or a b = a || b
joint_value v joint.Xor a b = differ a b
joint_value v (joint.Pick t) a b = cond (value_of v t) a b

-- what joins two numbers
abbrev pub joint_number : (ℕ → Bool) → Joint → ℕ → ℕ → ℕ
joint_number v joint.And x y = bit_and x y
joint_number v joint.Or x y = bit_or x y
joint_number v joint.Xor x y = bit_xor x y
joint_number v (joint.Pick t) x y = cond (value_of v t) x y

-- a joint's own literal is below a number
abbrev pub JointBelow : ℕ → Joint → Type 0
JointBelow n joint.And = Unit {0}
JointBelow n joint.Or = Unit {0}
JointBelow n joint.Xor = Unit {0}
JointBelow n (joint.Pick t) = Below n t

joint_below_more : (n m : ℕ) (j : Joint) → n ≤ m → JointBelow n j → JointBelow m j
joint_below_more n m joint.And l h = tt
joint_below_more n m joint.Or l h = tt
joint_below_more n m joint.Xor l h = tt
joint_below_more n m (joint.Pick t) l h = omega arith

pub joined_good : (j : Joint) (a b : Lit) (old : List Gate) → JointBelow (next_variable old) j → Below (next_variable old) a → Below (next_variable old) b →
    Good Lit Below (λ v x. value_of v x ≡ joint_value v j (value_of v a) (value_of v b)) old (joined j a b old)
joined_good joint.And a b old h p q = placed_good (And a b) old (p, q)
joined_good joint.Or a b old h p q = either_good a b old p q
joined_good joint.Xor a b old h p q = placed_good (Xor a b) old (p, q)
joined_good (joint.Pick t) a b old h p q = placed_good (Mux t a b) old (h, p, q)

and_bits : (a b : Bool) → bit_and (bit_of a) (bit_of b) ≡ bit_of (a && b)
and_bits true true = refl
and_bits true false = refl
and_bits false true = refl
and_bits false false = refl

or_bits : (a b : Bool) → bit_or (bit_of a) (bit_of b) ≡ bit_of (a || b)
or_bits true true = refl
or_bits true false = refl
or_bits false true = refl
or_bits false false = refl

xor_bits : (a b : Bool) → bit_xor (bit_of a) (bit_of b) ≡ bit_of (differ a b)
xor_bits true true = refl
xor_bits true false = refl
xor_bits false true = refl
xor_bits false false = refl

-- a number with one more bit, the lowest
turned : (d n : ℕ) → d + 2 * n ≡ n * 2 ^ 1 + d
turned d n = omega arith

more : (f : ℕ → ℕ → ℕ) (a b c x y : ℕ) → f (x * 2 ^ 1 + a) (y * 2 ^ 1 + b) ≡ f x y * 2 ^ 1 + f a b → f a b ≡ c → c + 2 * f x y ≡ f (a + 2 * x) (b + 2 * y)
more f a b c x y e g =
    turned c (f x y) ∙ ap (λ z. f x y * 2 ^ 1 + z) (sym g) ∙ sym e ∙ ap (λ z. f z (y * 2 ^ 1 + b)) (sym (turned a x))
    ∙ ap (λ z. f (a + 2 * x) z) (sym (turned b y))

joint_more : (v : ℕ → Bool) (j : Joint) (a b : Bool) (x y : ℕ) →
    bit_of (joint_value v j a b) + 2 * joint_number v j x y ≡ joint_number v j (bit_of a + 2 * x) (bit_of b + 2 * y)
joint_more v joint.And a b x y = more bit_and (bit_of a) (bit_of b) (bit_of (a && b)) x y
    (and_block 1 x y (bit_of a) (bit_of b) (bit_small a) (bit_small b)) (and_bits a b)
joint_more v joint.Or a b x y = more bit_or (bit_of a) (bit_of b) (bit_of (a || b)) x y
    (or_block 1 x y (bit_of a) (bit_of b) (bit_small a) (bit_small b)) (or_bits a b)
joint_more v joint.Xor a b x y = more bit_xor (bit_of a) (bit_of b) (bit_of (differ a b)) x y
    (xor_block 1 x y (bit_of a) (bit_of b) (bit_small a) (bit_small b)) (xor_bits a b)
joint_more v (joint.Pick t) a b x y =
    elim (value_of v t) as (λ c. bit_of (cond c a b) + 2 * cond c x y ≡ cond c (bit_of a + 2 * x) (bit_of b + 2 * y)) [ true ↦ refl | false ↦ refl ]

joint_none : (v : ℕ → Bool) (j : Joint) → 0 ≡ joint_number v j 0 0
joint_none v joint.And = refl
joint_none v joint.Or = refl
joint_none v joint.Xor = refl
joint_none v (joint.Pick t) = elim (value_of v t) as (λ c. ◌≡◌ {A = ℕ} 0 (cond c 0 0)) [ true ↦ refl | false ↦ refl ]

-- bits that mean this number of two words' numbers
abbrev pub IsJoint : Joint → List Lit → List Lit → (ℕ → Bool) → List Lit → Type 0
IsJoint j xs ys v os = number v os ≡ joint_number v j (number v xs) (number v ys)

pub joined_each_good : (j : Joint) (xs ys : List Lit) (old : List Gate) → length xs ≡ length ys → JointBelow (next_variable old) j →
    AllBelow (next_variable old) xs → AllBelow (next_variable old) ys →
    Good (List Lit) (AreBits (length xs)) (IsJoint j xs ys) old (joined_each j xs ys old)
joined_each_good j [] [] old l h p q = done (AreBits 0) (IsJoint j [] []) old [] (record { count = refl; below = tt }) (λ v t. joint_none v j)
joined_each_good j [] (y ∷ ys) old l h p q = absurd (omega arith)
joined_each_good j (x ∷ xs) [] old l h p q = absurd (omega arith)
joined_each_good j (x ∷ xs) (y ∷ ys) old l h p q =
    let one : Out Lit = joined j x y old in
    let g = joined_good j x y old h p.0 q.0 in
    let n = grows_length old one.gates g.grows in
    let rest : Out (List Lit) = joined_each j xs ys one.gates in
    let k = joined_each_good j xs ys one.gates (omega arith) (joint_below_more _ _ j n h) (all_below_more _ _ xs n p.1) (all_below_more _ _ ys n q.1) in
    follow (AreBits (length (x ∷ xs))) (IsJoint j (x ∷ xs) (y ∷ ys)) old one rest (one.value ∷ rest.value) g k
    (λ m b d. record { count = (let c = d.count in omega (arith, c)); below = ((omega arith), d.below) })
    (λ v t e f.
    ap (λ z. bit_of z + 2 * number v rest.value) e ∙ ap (λ z. bit_of (joint_value v j (value_of v x) (value_of v y)) + 2 * z) f
    ∙ joint_more v j (value_of v x) (value_of v y) (number v xs) (number v ys))
