-- What the gates of a sum mean.
use Rattle.std.proofs.Common.{◌≡◌, ℕ, ◌+◌, ◌*◌, ◌^◌, Bool, true, false, ◌&&◌, ◌||◌, List, [], ◌∷◌, length, ap, ◌∙◌, arith, refl}
use Rattle.ygg_cnf.specs.declared.lit.Lit.{Lit}
use Rattle.ygg_value.specs.Words.{bit_of}
use Rattle.ygg_gates.specs.Circuits.{Out, next_variable, placed, either}
use Rattle.ygg_gates.specs.Rows.{Sum, added_bit, added}
use Rattle.ygg_gates.specs.declared.gate.Carried.{Carried}
use Rattle.ygg_gates.specs.declared.gate.Gate.{Gate}
use Rattle.ygg_gates.specs.declared.gate.Gate.TheVariants.{And, Xor}
use Rattle.ygg_gates.proofs.Truths.{value_of, differ}
use Rattle.ygg_gates.proofs.Following.{Below}
use Rattle.ygg_gates.proofs.BitNumbers.{number, AllBelow, all_below_more, AreBits, double_times}
use Rattle.ygg_gates.proofs.CircuitSteps.{Good, done, follow, changed, placed_good, either_good, grows_length}

-- one bit
adder_table : (a b c : Bool) → bit_of (differ (differ a b) c) + 2 * bit_of ((a && b) || (differ a b && c)) ≡ bit_of a + bit_of b + bit_of c
adder_table true true true = refl
adder_table true true false = refl
adder_table true false true = refl
adder_table true false false = refl
adder_table false true true = refl
adder_table false true false = refl
adder_table false false true = refl
adder_table false false false = refl

abbrev BothBelow : ℕ → Carried → Type 0
BothBelow n o = Below n o.bit × Below n o.carry

-- the bit and the next carry, as truth values
record IsSumBit (a b c : Bool) (v : ℕ → Bool) (o : Carried) : Type 0 where
  bit : value_of v o.bit ≡ differ (differ a b) c
  carry : value_of v o.carry ≡ ((a && b) || (differ a b && c))

-- the same, with the bits' XOR and AND at hand
through_good : (x both c : Lit) (old : List Gate) → Below (next_variable old) x → Below (next_variable old) both → Below (next_variable old) c →
    Good Lit Below (λ v k. value_of v k ≡ (value_of v both || (value_of v x && value_of v c))) old
    (let f : Out Lit = placed (And x c) old in either both f.value f.gates)
through_good x both c old p q r =
    let f : Out Lit = placed (And x c) old in
    let g = placed_good (And x c) old (p, r) in
    let n = grows_length old f.gates g.grows in
    let k : Out Lit = either both f.value f.gates in
    follow Below (λ v z. value_of v z ≡ (value_of v both || (value_of v x && value_of v c))) old f k k.value g
    (either_good both f.value f.gates (omega arith) g.within) (λ l a b. b)
    (λ v t e h. h ∙ ap (λ z. value_of v both || z) e)

carry_good : (x a b c : Lit) (old : List Gate) → Below (next_variable old) x → Below (next_variable old) a → Below (next_variable old) b →
    Below (next_variable old) c →
    Good Lit Below (λ v k. value_of v k ≡ ((value_of v a && value_of v b) || (value_of v x && value_of v c))) old
    (let e : Out Lit = placed (And a b) old in let f : Out Lit = placed (And x c) e.gates in either e.value f.value f.gates)
carry_good x a b c old p q r s =
    let e : Out Lit = placed (And a b) old in
    let g = placed_good (And a b) old (q, r) in
    let n = grows_length old e.gates g.grows in
    let f : Out Lit = placed (And x c) e.gates in
    let k : Out Lit = either e.value f.value f.gates in
    follow Below (λ v z. value_of v z ≡ ((value_of v a && value_of v b) || (value_of v x && value_of v c))) old e k k.value g
    (through_good x e.value c e.gates (omega arith) g.within (omega arith)) (λ l y z. z)
    (λ v t h i. i ∙ ap (λ z. z || (value_of v x && value_of v c)) h)

added_bit_truth : (a b c : Lit) (old : List Gate) → Below (next_variable old) a → Below (next_variable old) b → Below (next_variable old) c →
    Good Carried BothBelow (λ v o. IsSumBit (value_of v a) (value_of v b) (value_of v c) v o) old (added_bit a b c old)
added_bit_truth a b c old p q r =
    let x : Out Lit = placed (Xor a b) old in
    let g = placed_good (Xor a b) old (p, q) in
    let n = grows_length old x.gates g.grows in
    let d : Out Lit = placed (Xor x.value c) x.gates in
    let h = placed_good (Xor x.value c) x.gates (g.within, omega arith) in
    let m = grows_length x.gates d.gates h.grows in
    let i = g.within in
    let e : Out Lit = placed (And a b) d.gates in
    let f : Out Lit = placed (And x.value c) e.gates in
    let k : Out Lit = either e.value f.value f.gates in
    let w = carry_good x.value a b c d.gates (omega arith) (omega arith) (omega arith) (omega arith) in
    let o : Carried = record { bit = d.value; carry = k.value } in
    let two : Out Carried = record { value = o; gates = k.gates } in
    follow BothBelow (λ v o. IsSumBit (value_of v a) (value_of v b) (value_of v c) v o) old x two o g
    (follow BothBelow (λ v o. (value_of v o.bit ≡ differ (value_of v x.value) (value_of v c))
    × (value_of v o.carry ≡ ((value_of v a && value_of v b) || (value_of v x.value && value_of v c)))) x.gates d k o h w
    (λ l y z. (omega arith, z)) (λ v t y z. (y, z)))
    (λ l y z. z)
    (λ v t y z. record {
      bit = z.0 ∙ ap (λ u. differ u (value_of v c)) y;
      carry = z.1 ∙ ap (λ u. (value_of v a && value_of v b) || (u && value_of v c)) y;
    })

-- a bit of a sum, in numbers
abbrev IsAddedBit : Lit → Lit → Lit → (ℕ → Bool) → Carried → Type 0
IsAddedBit a b c v o = bit_of (value_of v o.bit) + 2 * bit_of (value_of v o.carry) ≡ bit_of (value_of v a) + bit_of (value_of v b) + bit_of (value_of v c)

added_bit_good : (a b c : Lit) (old : List Gate) → Below (next_variable old) a → Below (next_variable old) b → Below (next_variable old) c →
    Good Carried BothBelow (IsAddedBit a b c) old (added_bit a b c old)
added_bit_good a b c old p q r =
    let o : Out Carried = added_bit a b c old in
    changed BothBelow (IsAddedBit a b c) old o o.value (added_bit_truth a b c old p q r) (λ w. w)
    (λ v t s. ap (λ z. bit_of z + 2 * bit_of (value_of v o.value.carry)) s.bit
    ∙ ap (λ z. bit_of (differ (differ (value_of v a) (value_of v b)) (value_of v c)) + 2 * bit_of z) s.carry
    ∙ adder_table (value_of v a) (value_of v b) (value_of v c))

-- the bits and the carry of a sum are below a number
pub record SumBelow (width n : ℕ) (s : Sum) : Type 0 where
  pub bits : AreBits width n s.bits
  pub carry : Below n s.carry

-- with the last carry as the highest bit, the sum of the numbers and the first carry
abbrev pub IsSum : List Lit → List Lit → Lit → (ℕ → Bool) → Sum → Type 0
IsSum xs ys c v s = number v s.bits + 2 ^ length xs * bit_of (value_of v s.carry) ≡ number v xs + number v ys + bit_of (value_of v c)

pub added_good : (xs ys : List Lit) (c : Lit) (old : List Gate) → length xs ≡ length ys → AllBelow (next_variable old) xs →
    AllBelow (next_variable old) ys → Below (next_variable old) c →
    Good Sum (SumBelow (length xs)) (IsSum xs ys c) old (added xs ys c old)
added_good [] [] c old l p q r =
    done (SumBelow 0) (IsSum [] [] c) old (record { bits = []; carry = c }) (record { bits = record { count = refl; below = tt }; carry = r })
    (λ v t. omega arith)
added_good [] (y ∷ ys) c old l p q r = absurd (omega arith)
added_good (x ∷ xs) [] c old l p q r = absurd (omega arith)
added_good (x ∷ xs) (y ∷ ys) c old l p q r =
    let one : Out Carried = added_bit x y c old in
    let g = added_bit_good x y c old p.0 q.0 r in
    let n = grows_length old one.gates g.grows in
    let rest : Out Sum = added xs ys one.value.carry one.gates in
    let k = added_good xs ys one.value.carry one.gates (omega arith) (all_below_more _ _ xs n p.1) (all_below_more _ _ ys n q.1) (let w = g.within in w.1) in
    let s : Sum = record { bits = one.value.bit ∷ rest.value.bits; carry = rest.value.carry } in
    follow (SumBelow (length (x ∷ xs))) (IsSum (x ∷ xs) (y ∷ ys) c) old one rest s g k
    (λ m b d. record {
      bits = record {
        count = (let e = d.bits.count in omega (arith, e));
        below =
            ((let b0 = b.0 in omega arith), d.bits.below);
      };
      carry = d.carry;
    })
    (λ v t e f.
    let d = double_times (length xs) (bit_of (value_of v rest.value.carry)) in
    omega (arith, e, f, d))
