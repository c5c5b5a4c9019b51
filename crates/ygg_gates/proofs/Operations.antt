-- What the gates of each operation mean.
use Rattle.std.proofs.Common.{
  ◌≡◌,
  ◌<◌,
  ◌≤◌,
  ℕ,
  ◌+◌,
  ◌-◌,
  ◌*◌,
  ◌^◌,
  ◌==◌,
  Bool,
  not,
  ◌&&◌,
  nat_lt,
  nat_le,
  bit_or,
  List,
  [],
  ◌∷◌,
  length,
  replicate,
  ⊎_elim,
  sym,
  subst,
  ap,
  ◌∙◌,
  arith,
  refl,
}
use Rattle.std.proofs.lemmas.Bool.{cases_lt}
use Rattle.std.proofs.lemmas.Bool.Decides.{nat_tests}
use Rattle.std.proofs.lemmas.List.{length-replicate, length-map}
use Rattle.ygg_cnf.specs.Literals.{complement}
use Rattle.ygg_cnf.specs.declared.lit.Lit.{Lit}
use Rattle.ygg_value.specs.Words.{bit_of, word, apply_bits, result_width, CanApply}
use Rattle.ygg_value.specs.declared.operation.Op.{Op}
use Rattle.ygg_value.specs.declared.operation.Op.TheVariants as op
use Rattle.ygg_gates.specs.Circuits.{Out, next_variable, true_literal, false_literal, complements}
use Rattle.ygg_gates.specs.Rows.{Sum, joined_each, added, subtracted, multiplied, equal_bits, less, operation}
use Rattle.ygg_gates.specs.declared.gate.Gate.{Gate}
use Rattle.ygg_gates.specs.declared.gate.Joint.TheVariants as joint
use Rattle.ygg_gates.specs.declared.gate.Way.TheVariants.{Up, Down}
use Rattle.ygg_gates.proofs.Truths.{value_of, value_of-complement}
use Rattle.ygg_gates.proofs.Following.{Below}
use Rattle.ygg_gates.proofs.Compares.{subtracted_good, less_good, equal_good}
use Rattle.ygg_gates.proofs.Joints.{joined_each_good}
use Rattle.ygg_gates.proofs.BitNumbers.{
  number,
  AllBelow,
  all_below_replicate,
  all_below_complements,
  AreBits,
  number_below,
  number_complements,
  number_falses,
  false_bit,
}
use Rattle.ygg_gates.proofs.Products.{wraps_mod, multiplied_good}
use Rattle.ygg_gates.proofs.MeantShifts.{shifted_good}
use Rattle.ygg_gates.proofs.CircuitSteps.{Good, changed}
use Rattle.ygg_gates.proofs.MeantSums.{added_good}

-- the width and the number of an operation's result
abbrev pub IsResult : Op → List Lit → List Lit → (ℕ → Bool) → List Lit → Type 0
IsResult o xs ys v os = number v os ≡ apply_bits o (length xs) (number v xs) (number v ys)

sum_good : (xs ys : List Lit) (old : List Gate) → length xs ≡ length ys → AllBelow (next_variable old) xs → AllBelow (next_variable old) ys →
    Good (List Lit) (AreBits (length xs)) (IsResult op.Add xs ys) old (operation op.Add xs ys old)
sum_good xs ys old l p q =
    let s : Out Sum = added xs ys false_literal old in
    let g = added_good xs ys false_literal old l p q (omega arith) in
    let w = g.within in
    changed (AreBits (length xs)) (IsResult op.Add xs ys) old s s.value.bits g (λ y. y.bits)
    (λ v t e.
    let z = false_bit v t in
    let fits : number v s.value.bits < 2 ^ length xs = subst (λ k. number v s.value.bits < 2 ^ k) w.bits.count (number_below v s.value.bits) in
    wraps_mod (2 ^ length xs) (number v s.value.bits) (number v xs + number v ys) fits
    (record { over = bit_of (value_of v s.value.carry); is = omega (arith, e, z) }))

difference_good : (xs ys : List Lit) (old : List Gate) → length xs ≡ length ys → AllBelow (next_variable old) xs → AllBelow (next_variable old) ys →
    Good (List Lit) (AreBits (length xs)) (IsResult op.Sub xs ys) old (operation op.Sub xs ys old)
difference_good xs ys old l p q =
    let s : Out Sum = subtracted xs ys old in
    let g = subtracted_good xs ys old l p q in
    let w = g.within in
    changed (AreBits (length xs)) (IsResult op.Sub xs ys) old s s.value.bits g (λ y. y.bits)
    (λ v t e.
    let fits : number v s.value.bits < 2 ^ length xs = subst (λ k. number v s.value.bits < 2 ^ k) w.bits.count (number_below v s.value.bits) in
    wraps_mod (2 ^ length xs) (number v s.value.bits) (number v xs + 2 ^ length xs - number v ys) fits
    (record { over = bit_of (value_of v s.value.carry); is = omega (arith, e) }))

product_good : (xs ys : List Lit) (old : List Gate) → length xs ≡ length ys → AllBelow (next_variable old) xs → AllBelow (next_variable old) ys →
    Good (List Lit) (AreBits (length xs)) (IsResult op.Mul xs ys) old (operation op.Mul xs ys old)
product_good xs ys old l p q =
    let zeros : List Lit = replicate (length xs) false_literal in
    let out : Out (List Lit) = multiplied xs zeros 0 ys old in
    let g = multiplied_good xs zeros 0 ys old (length-replicate (length xs) false_literal) (omega arith) p
    (all_below_replicate (next_variable old) (length xs) false_literal (omega arith)) q in
    let w = g.within in
    changed (AreBits (length xs)) (IsResult op.Mul xs ys) old out out.value g (λ y. y)
    (λ v t e.
    let z = number_falses v (length xs) t in
    let fits : number v out.value < 2 ^ length xs = subst (λ k. number v out.value < 2 ^ k) w.count (number_below v out.value) in
    let whole : number v zeros + number v xs * (2 ^ 0 * number v ys) ≡ number v xs * number v ys = ap (λ k. k + number v xs * (2 ^ 0 * number v ys)) z
    ∙ plain (number v xs) (number v ys) in
    wraps_mod (2 ^ length xs) (number v out.value) (number v xs * number v ys) fits (record { over = e.over; is = e.is ∙ whole })) where
      plain : (x y : ℕ) → 0 + x * (2 ^ 0 * y) ≡ x * y
      plain x y = let one : 2 ^ 0 * y ≡ y = omega arith in ap (λ z. 0 + x * z) one ∙ none (x * y) where
        none : (n : ℕ) → 0 + n ≡ n
        none n = omega arith

-- a single bit with the value of a test
single_good : (test : (ℕ → Bool) → Bool) (old : List Gate) (out : Out Lit) → Good Lit Below (λ v o. value_of v o ≡ test v) old out →
    Good (List Lit) (AreBits 1) (λ v os. number v os ≡ bit_of (test v)) old (record { value = out.value ∷ []; gates = out.gates })
single_good test old out g =
    changed (AreBits 1) (λ v os. number v os ≡ bit_of (test v)) old out (out.value ∷ []) g (λ b. record { count = refl; below = (b, tt) })
    (λ v t e. ap (λ z. bit_of z + 2 * 0) e ∙ last (bit_of (test v))) where
      last : (n : ℕ) → n + 2 * 0 ≡ n
      last n = omega arith

turned_good : (test : (ℕ → Bool) → Bool) (old : List Gate) (out : Out Lit) → Good Lit Below (λ v o. value_of v o ≡ test v) old out →
    Good Lit Below (λ v o. value_of v o ≡ not (test v)) old (record { value = complement out.value; gates = out.gates })
turned_good test old out g = changed Below (λ v o. value_of v o ≡ not (test v)) old out (complement out.value) g (λ b. b)
    (λ v t e. value_of-complement v out.value ∙ ap not e)

equality_good : (xs ys : List Lit) (old : List Gate) → length xs ≡ length ys → AllBelow (next_variable old) xs → AllBelow (next_variable old) ys →
    Good Lit Below (λ v o. value_of v o ≡ (number v xs == number v ys)) old (equal_bits true_literal xs ys old)
equality_good xs ys old l p q =
    let out : Out Lit = equal_bits true_literal xs ys old in
    changed Below (λ v o. value_of v o ≡ (number v xs == number v ys)) old out out.value (equal_good true_literal xs ys old l (omega arith) p q) (λ w. w)
    (λ v t e. e ∙ ap (λ z. z && (number v xs == number v ys)) t)

at_most : (x y : ℕ) → not (nat_lt y x) ≡ nat_le x y
at_most x y = grind (arith, nat_tests)

-- implication of single bits
imp_table : (x y n : ℕ) → x < 2 → y < 2 → n + x + 1 ≡ 2 → bit_or n y ≡ bit_of (not (x == 1 && y == 0))
imp_table x y n p q e =
    ⊎_elim
    (λ (l : x < 1).
    let zero_x : x ≡ 0 = omega arith in
    let one : n ≡ 1 = omega (arith, e) in
    ⊎_elim (λ (m : y < 1). let zero_y : y ≡ 0 = omega arith in rw (zero_x, one, zero_y) refl)
    (λ (m : 1 ≤ y). let one_y : y ≡ 1 = omega arith in rw (zero_x, one, one_y) refl) (cases_lt y 1))
    (λ (l : 1 ≤ x).
    let one_x : x ≡ 1 = omega arith in
    let none : n ≡ 0 = omega (arith, e) in
    ⊎_elim (λ (m : y < 1). let zero_y : y ≡ 0 = omega arith in rw (one_x, none, zero_y) refl)
    (λ (m : 1 ≤ y). let one_y : y ≡ 1 = omega arith in rw (one_x, none, one_y) refl) (cases_lt y 1))
    (cases_lt x 1)

below_two : (v : ℕ → Bool) (xs : List Lit) → length xs ≡ 1 → number v xs < 2
below_two v xs l = let h = number_below v xs in let e : 2 ^ length xs ≡ 2 = ap (λ k. 2 ^ k) l in omega (arith, h, e)

implication_good : (xs ys : List Lit) (old : List Gate) → length xs ≡ 1 → length ys ≡ 1 → AllBelow (next_variable old) xs → AllBelow (next_variable old) ys →
    Good (List Lit) (AreBits 1) (IsResult op.Imp xs ys) old (operation op.Imp xs ys old)
implication_good xs ys old l m p q =
    let out : Out (List Lit) = joined_each joint.Or (complements xs) ys old in
    let count : length (complements xs) ≡ 1 = length-map xs complement ∙ l in
    changed (AreBits 1) (IsResult op.Imp xs ys) old out out.value
    (joined_each_good joint.Or (complements xs) ys old (count ∙ sym m) tt (all_below_complements (next_variable old) xs p) q)
    (λ w. record { count = w.count ∙ count; below = w.below })
    (λ v t e.
    let c = number_complements v xs in
    let two : 2 ^ length xs ≡ 2 = ap (λ k. 2 ^ k) l in
    e ∙ imp_table (number v xs) (number v ys) (number v (complements xs)) (below_two v xs l) (below_two v ys m) (c ∙ two))

-- widths that an operation takes
abbrev pub CanOperate : Op → ℕ → ℕ → Type 0
CanOperate o w u = CanApply o (word w 0) (word u 0)

pub operation_good : (o : Op) (xs ys : List Lit) (old : List Gate) → CanOperate o (length xs) (length ys) → AllBelow (next_variable old) xs →
    AllBelow (next_variable old) ys →
    Good (List Lit) (AreBits (result_width o (length xs))) (IsResult o xs ys) old (operation o xs ys old)
operation_good op.Add xs ys old c p q = sum_good xs ys old c p q
operation_good op.Sub xs ys old c p q = difference_good xs ys old c p q
operation_good op.Mul xs ys old c p q = product_good xs ys old c p q
operation_good op.And xs ys old c p q = joined_each_good joint.And xs ys old c tt p q
operation_good op.Or xs ys old c p q = joined_each_good joint.Or xs ys old c tt p q
operation_good op.Xor xs ys old c p q = joined_each_good joint.Xor xs ys old c tt p q
operation_good op.Shl xs ys old c p q = shifted_good Up xs ys old p q
operation_good op.Shr xs ys old c p q = shifted_good Down xs ys old p q
operation_good op.Eq xs ys old c p q = single_good (λ v. number v xs == number v ys) old (equal_bits true_literal xs ys old) (equality_good xs ys old c p q)
operation_good op.Ne xs ys old c p q =
    let o : Out Lit = equal_bits true_literal xs ys old in
    single_good (λ v. not (number v xs == number v ys)) old (record { value = complement o.value; gates = o.gates })
    (turned_good (λ v. number v xs == number v ys) old o (equality_good xs ys old c p q))
operation_good op.Lt xs ys old c p q = single_good (λ v. nat_lt (number v xs) (number v ys)) old (less xs ys old) (less_good xs ys old c p q)
operation_good op.Le xs ys old c p q =
    let o : Out Lit = less ys xs old in
    let t : Out Lit = record { value = complement o.value; gates = o.gates } in
    let g = single_good (λ v. not (nat_lt (number v ys) (number v xs))) old t
    (turned_good (λ v. nat_lt (number v ys) (number v xs)) old o (less_good ys xs old (sym c) q p)) in
    changed (AreBits 1) (IsResult op.Le xs ys) old (record { value = t.value ∷ []; gates = t.gates }) (t.value ∷ []) g (λ w. w)
    (λ v r e. e ∙ ap bit_of (at_most (number v xs) (number v ys)))
operation_good op.Gt xs ys old c p q = single_good (λ v. nat_lt (number v ys) (number v xs)) old (less ys xs old) (less_good ys xs old (sym c) q p)
operation_good op.Ge xs ys old c p q =
    let o : Out Lit = less xs ys old in
    let t : Out Lit = record { value = complement o.value; gates = o.gates } in
    let g = single_good (λ v. not (nat_lt (number v xs) (number v ys))) old t
    (turned_good (λ v. nat_lt (number v xs) (number v ys)) old o (less_good xs ys old c p q)) in
    changed (AreBits 1) (IsResult op.Ge xs ys) old (record { value = t.value ∷ []; gates = t.gates }) (t.value ∷ []) g (λ w. w)
    (λ v r e. e ∙ ap bit_of (at_most (number v ys) (number v xs)))
operation_good op.Imp xs ys old c p q = implication_good xs ys old c.0 c.1 p q
