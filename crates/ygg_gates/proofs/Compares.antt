-- What the gates of differences and comparisons mean.
use Rattle.std.proofs.Common.{
  ◌≡◌,
  ◌≢◌,
  ◌<◌,
  ◌≤◌,
  ℕ,
  ◌+◌,
  ◌*◌,
  ◌^◌,
  ◌==◌,
  Bool,
  true,
  false,
  not,
  ◌&&◌,
  ◌||◌,
  nat_lt,
  List,
  [],
  ◌∷◌,
  length,
  ⊎_elim,
  sym,
  subst,
  ap,
  ◌∙◌,
  arith,
  refl,
}
use Rattle.std.proofs.lemmas.Bool.{cases_lt, cases_eq, eq-eqb, ne_eqb}
use Rattle.std.proofs.lemmas.Bool.Decides.{nat_tests}
use Rattle.std.proofs.lemmas.List.{length-map}
use Rattle.ygg_cnf.specs.Literals.{complement}
use Rattle.ygg_cnf.specs.declared.lit.Lit.{Lit}
use Rattle.ygg_value.specs.Words.{bit_of}
use Rattle.ygg_gates.specs.Circuits.{Out, next_variable, placed, either, complements, true_literal}
use Rattle.ygg_gates.specs.Rows.{Sum, added, subtracted, less, equal_bits, any_bit}
use Rattle.ygg_gates.specs.declared.gate.Gate.{Gate}
use Rattle.ygg_gates.specs.declared.gate.Gate.TheVariants.{And, Xor}
use Rattle.ygg_gates.proofs.Truths.{value_of, differ, value_of-complement}
use Rattle.ygg_gates.proofs.Following.{Below}
use Rattle.ygg_gates.proofs.BitNumbers.{number, AllBelow, all_below_more, all_below_complements, number_below, number_complements, true_bit}
use Rattle.ygg_gates.proofs.CircuitSteps.{Good, done, follow, changed, placed_good, either_good, grows_length}
use Rattle.ygg_gates.proofs.MeantSums.{SumBelow, added_good}

pub test_true : (m n : ℕ) → m < n → nat_lt m n ≡ true
test_true m n h = grind (arith, nat_tests)

pub test_false : (m n : ℕ) → n ≤ m → nat_lt m n ≡ false
test_false m n h = grind (arith, nat_tests)

-- the difference, with the carry above it
abbrev pub IsDifference : List Lit → List Lit → (ℕ → Bool) → Sum → Type 0
IsDifference xs ys v s = number v s.bits + 2 ^ length xs * bit_of (value_of v s.carry) + number v ys ≡ number v xs + 2 ^ length xs

pub subtracted_good : (xs ys : List Lit) (old : List Gate) → length xs ≡ length ys → AllBelow (next_variable old) xs → AllBelow (next_variable old) ys →
    Good Sum (SumBelow (length xs)) (IsDifference xs ys) old (subtracted xs ys old)
subtracted_good xs ys old l p q =
    let out : Out Sum = added xs (complements ys) true_literal old in
    let same : length xs ≡ length (complements ys) = l ∙ sym (length-map ys complement) in
    changed (SumBelow (length xs)) (IsDifference xs ys) old out out.value
    (added_good xs (complements ys) true_literal old same p (all_below_complements (next_variable old) ys q) (omega arith)) (λ w. w)
    (λ v t e.
    let one = true_bit v t in
    let c = number_complements v ys in
    let w : 2 ^ length ys ≡ 2 ^ length xs = ap (λ k. 2 ^ k) (sym l) in
    omega (arith, e, one, c, w))

less_from : (d p x y : ℕ) (b : Bool) → d + p * bit_of b + y ≡ x + p → d < p → not b ≡ nat_lt x y
less_from d p x y true e l = sym (test_false x y (omega (arith, e)))
less_from d p x y false e l = sym (test_true x y (omega (arith, e, l)))

pub less_good : (xs ys : List Lit) (old : List Gate) → length xs ≡ length ys → AllBelow (next_variable old) xs → AllBelow (next_variable old) ys →
    Good Lit Below (λ v o. value_of v o ≡ nat_lt (number v xs) (number v ys)) old (less xs ys old)
less_good xs ys old l p q =
    let s : Out Sum = subtracted xs ys old in
    let g = subtracted_good xs ys old l p q in
    changed Below (λ v o. value_of v o ≡ nat_lt (number v xs) (number v ys)) old s (complement s.value.carry) g (λ w. w.carry)
    (λ v t e.
    let d : number v s.value.bits < 2 ^ length xs = (let w = g.within in
    subst (λ k. number v s.value.bits < 2 ^ k) w.bits.count (number_below v s.value.bits)) in
    value_of-complement v s.value.carry ∙ less_from (number v s.value.bits) (2 ^ length xs) (number v xs) (number v ys) (value_of v s.value.carry) e d)

same_tests : (m n p q : ℕ) → (m ≡ n → p ≡ q) → (p ≡ q → m ≡ n) → (m == n) ≡ (p == q)
same_tests m n p q f g =
    ⊎_elim (λ (e : m ≡ n). eq-eqb m n e ∙ sym (eq-eqb p q (f e))) (λ (d : m ≢ n). ne_eqb m n d ∙ sym (ne_eqb p q (λ e. d (g e)))) (cases_eq m n)

equal_more : (a b : Bool) (x y : ℕ) → (not (differ a b) && (x == y)) ≡ ((bit_of a + 2 * x) == (bit_of b + 2 * y))
equal_more true true x y = same_tests x y (1 + 2 * x) (1 + 2 * y) (λ e. omega (arith, e)) (λ e. omega (arith, e))
equal_more true false x y = sym (ne_eqb (1 + 2 * x) (0 + 2 * y) (λ e. absurd (omega (arith, e))))
equal_more false true x y = sym (ne_eqb (0 + 2 * x) (1 + 2 * y) (λ e. absurd (omega (arith, e))))
equal_more false false x y = same_tests x y (0 + 2 * x) (0 + 2 * y) (λ e. omega (arith, e)) (λ e. omega (arith, e))

and_assoc : (a b c : Bool) → ((a && b) && c) ≡ (a && (b && c))
and_assoc true b c = refl
and_assoc false b c = refl

and_true : (a : Bool) → a ≡ (a && true)
and_true true = refl
and_true false = refl

abbrev pub IsEqual : Lit → List Lit → List Lit → (ℕ → Bool) → Lit → Type 0
IsEqual so_far xs ys v o = value_of v o ≡ (value_of v so_far && (number v xs == number v ys))

pub equal_good : (so_far : Lit) (xs ys : List Lit) (old : List Gate) → length xs ≡ length ys → Below (next_variable old) so_far →
    AllBelow (next_variable old) xs → AllBelow (next_variable old) ys →
    Good Lit Below (IsEqual so_far xs ys) old (equal_bits so_far xs ys old)
equal_good so_far [] [] old l r p q = done Below (IsEqual so_far [] []) old so_far r (λ v t. and_true (value_of v so_far))
equal_good so_far [] (y ∷ ys) old l r p q = absurd (omega arith)
equal_good so_far (x ∷ xs) [] old l r p q = absurd (omega arith)
equal_good so_far (x ∷ xs) (y ∷ ys) old l r p q =
    let d : Out Lit = placed (Xor x y) old in
    let g = placed_good (Xor x y) old (p.0, q.0) in
    let n = grows_length old d.gates g.grows in
    let o : Out Lit = placed (And so_far (complement d.value)) d.gates in
    let h = placed_good (And so_far (complement d.value)) d.gates (omega arith, g.within) in
    let m = grows_length d.gates o.gates h.grows in
    let rest : Out Lit = equal_bits o.value xs ys o.gates in
    let k = equal_good o.value xs ys o.gates (omega arith) h.within (all_below_more _ _ xs (omega arith) p.1) (all_below_more _ _ ys (omega arith) q.1) in
    follow Below (IsEqual so_far (x ∷ xs) (y ∷ ys)) old d rest rest.value g
    (follow Below (λ v z. value_of v z ≡ ((value_of v so_far && not (value_of v d.value)) && (number v xs == number v ys))) d.gates o rest rest.value
    h k (λ i a b. b)
    (λ v t e f. f ∙ ap (λ z. z && (number v xs == number v ys)) (e ∙ ap (λ z. value_of v so_far && z) (value_of-complement v d.value))))
    (λ i a b. b)
    (λ v t e f.
    f ∙ ap (λ z. (value_of v so_far && not z) && (number v xs == number v ys)) e
    ∙ and_assoc (value_of v so_far) (not (differ (value_of v x) (value_of v y))) (number v xs == number v ys)
    ∙ ap (λ z. value_of v so_far && z) (equal_more (value_of v x) (value_of v y) (number v xs) (number v ys)))

any_more : (s d : Bool) (n : ℕ) → ((s || d) || nat_lt 0 n) ≡ (s || nat_lt 0 (bit_of d + 2 * n))
any_more true d n = refl
any_more false true n = sym (test_true 0 (1 + 2 * n) (omega arith))
any_more false false n =
    ⊎_elim (λ (l : 0 < n). test_true 0 n l ∙ sym (test_true 0 (0 + 2 * n) (omega arith)))
    (λ (l : n ≤ 0). test_false 0 n l ∙ sym (test_false 0 (0 + 2 * n) (omega arith))) (cases_lt 0 n)

or_false : (a : Bool) → a ≡ (a || false)
or_false true = refl
or_false false = refl

abbrev pub IsAny : Lit → List Lit → (ℕ → Bool) → Lit → Type 0
IsAny so_far ds v o = value_of v o ≡ (value_of v so_far || nat_lt 0 (number v ds))

pub any_good : (so_far : Lit) (ds : List Lit) (old : List Gate) → Below (next_variable old) so_far → AllBelow (next_variable old) ds →
    Good Lit Below (IsAny so_far ds) old (any_bit so_far ds old)
any_good so_far [] old r p = done Below (IsAny so_far []) old so_far r (λ v t. or_false (value_of v so_far))
any_good so_far (d ∷ ds) old r p =
    let o : Out Lit = either so_far d old in
    let g = either_good so_far d old r p.0 in
    let n = grows_length old o.gates g.grows in
    let rest : Out Lit = any_bit o.value ds o.gates in
    follow Below (IsAny so_far (d ∷ ds)) old o rest rest.value g (any_good o.value ds o.gates g.within (all_below_more _ _ ds n p.1)) (λ i a b. b)
    (λ v t e f. f ∙ ap (λ z. z || nat_lt 0 (number v ds)) e ∙ any_more (value_of v so_far) (value_of v d) (number v ds))
