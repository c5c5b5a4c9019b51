-- Loops over bits make the gates that the steps for all bits make.
use Rattle.std.proofs.Common.{
  ◌≡◌,
  ◌<◌,
  ◌≤◌,
  ◌^◌,
  ℕ,
  suc,
  ◌+◌,
  ◌-◌,
  List,
  [],
  ◌∷◌,
  ◌++◌,
  length,
  drop,
  get_or,
  min,
  refl,
  sym,
  ap,
  ◌∙◌,
  append_assoc,
  ◌⊎◌,
  inl,
  inr,
  ⊎_elim,
  arith,
}
use Rattle.std.proofs.lemmas.Bool.{cases_lt}
use Rattle.std.proofs.lemmas.List.{drop_more, drop_all, append-nil}
use Rattle.ygg_cnf.specs.Literals.{complement}
use Rattle.ygg_cnf.specs.declared.lit.Lit.{Lit}
use Rattle.ygg_gates.specs.Circuits.{Out, placed, either}
use Rattle.ygg_gates.specs.Rows.{
  Sum,
  joined,
  joined_each,
  free_bits,
  added_bit,
  added,
  multiplied_bit,
  multiplied,
  equal_bits,
  any_bit,
  shifted_near,
  moved,
}
use Rattle.ygg_gates.specs.declared.gate.Carried.{Carried}
use Rattle.ygg_gates.specs.declared.gate.Gate.{Gate}
use Rattle.ygg_gates.specs.declared.gate.Gate.TheVariants.{Free, And, Xor}
use Rattle.ygg_gates.specs.declared.gate.Joint.{Joint}
use Rattle.ygg_gates.specs.declared.gate.Joint.TheVariants as joint
use Rattle.ygg_gates.specs.declared.gate.Way.{Way}

-- the bit at a place, and those after it
rest_is : (xs : List Lit) (i : ℕ) (x : Lit) → i < length xs → x ≡ get_or xs i x → drop i xs ≡ x ∷ drop (i + 1) xs
rest_is xs i x l e = drop_more xs i x l ∙ ap (λ z. z ∷ drop (i + 1) xs) (sym e)

-- one more answer, and the rest of them
further : (so_far : List Lit) (o : Lit) (rest left whole : List Lit) → left ≡ o ∷ rest → so_far ++ left ≡ whole → (so_far ++ o ∷ []) ++ rest ≡ whole
further so_far o rest left whole e f = append_assoc so_far (o ∷ []) rest ∙ (ap (λ z. so_far ++ z) (sym e) ∙ f)

-- what is answered so far, with what the rest will be, is the whole
pub record Joined (j : Joint) (xs ys : List Lit) (old : List Gate) (i : ℕ) (so_far : List Lit) (now : List Gate) : Type 0 where
  pub value : so_far ++ (joined_each j (drop i xs) (drop i ys) now).value ≡ (joined_each j xs ys old).value
  pub gates : (joined_each j (drop i xs) (drop i ys) now).gates ≡ (joined_each j xs ys old).gates

pub joined_begins : (j : Joint) (xs ys : List Lit) (old : List Gate) → Joined j xs ys old 0 [] old
joined_begins j xs ys old = record { value = refl; gates = refl }

pub joined_goes : (j : Joint) (xs ys : List Lit) (old : List Gate) (i : ℕ) (so_far : List Lit) (now : List Gate) (x y o : Lit) (next : List Gate) →
    i < length xs → i < length ys → x ≡ get_or xs i x → y ≡ get_or ys i y → next ≡ (joined j x y now).gates → o ≡ (joined j x y now).value →
    Joined j xs ys old i so_far now → Joined j xs ys old (i + 1) (so_far ++ o ∷ []) next
joined_goes j xs ys old i so_far now x y o next p q d b e f s =
    let rest = joined_each j (drop (i + 1) xs) (drop (i + 1) ys) next in
    let left : Out (List Lit) = record { value = o ∷ rest.value; gates = rest.gates } in
    let one : joined_each j (drop i xs) (drop i ys) now ≡ left = rw (rest_is xs i x p d, rest_is ys i y q b, e, f) refl in
    record {
      value = further so_far o rest.value _ _ (ap (λ (z : Out (List Lit)). z.value) one) s.value;
      gates = sym (ap (λ (z : Out (List Lit)). z.gates) one) ∙ s.gates;
    }

-- past the end of the shorter list nothing is left of it
short : (xs ys : List Lit) (i : ℕ) → min (length xs) (length ys) ≤ i → (drop i xs ≡ []) ⊎ (drop i ys ≡ [])
short xs ys i l = ⊎_elim (λ (h : i < length xs). inr (drop_all i ys (omega arith))) (λ (h : length xs ≤ i). inl (drop_all i xs h)) (cases_lt i (length xs))

joined_none : (j : Joint) (xs : List Lit) (now : List Gate) → joined_each j xs [] now ≡ record { value = []; gates = now }
joined_none j [] now = refl
joined_none j (x ∷ xs) now = refl

joined_end : (j : Joint) (xs ys : List Lit) (i : ℕ) (now : List Gate) → min (length xs) (length ys) ≤ i →
    joined_each j (drop i xs) (drop i ys) now ≡ record { value = []; gates = now }
joined_end j xs ys i now l =
    elim (short xs ys i l) as (λ _. joined_each j (drop i xs) (drop i ys) now ≡ record { value = []; gates = now }) [
      | inl e ↦ ap (λ z. joined_each j z (drop i ys) now) e
      | inr e ↦ ap (λ z. joined_each j (drop i xs) z now) e ∙ joined_none j (drop i xs) now
    ]

pub joined_value : (j : Joint) (xs ys : List Lit) (old : List Gate) (i : ℕ) (so_far : List Lit) (now : List Gate) → min (length xs) (length ys) ≤ i →
    Joined j xs ys old i so_far now → so_far ≡ (joined_each j xs ys old).value
joined_value j xs ys old i so_far now l s =
    sym (append-nil so_far) ∙ ap (λ (z : Out (List Lit)). so_far ++ z.value) (sym (joined_end j xs ys i now l)) ∙ s.value

pub joined_gates : (j : Joint) (xs ys : List Lit) (old : List Gate) (i : ℕ) (so_far : List Lit) (now : List Gate) → min (length xs) (length ys) ≤ i →
    Joined j xs ys old i so_far now → now ≡ (joined_each j xs ys old).gates
joined_gates j xs ys old i so_far now l s = ap (λ (z : Out (List Lit)). z.gates) (sym (joined_end j xs ys i now l)) ∙ s.gates

-- the same of new variables
pub record Freed (width : ℕ) (old : List Gate) (i : ℕ) (so_far : List Lit) (now : List Gate) : Type 0 where
  pub value : so_far ++ (free_bits (width - i) now).value ≡ (free_bits width old).value
  pub gates : (free_bits (width - i) now).gates ≡ (free_bits width old).gates

pub free_begins : (width : ℕ) (old : List Gate) → Freed width old 0 [] old
free_begins width old = let all : width - 0 ≡ width = omega arith in
    record { value = ap (λ k. (free_bits k old).value) all; gates = ap (λ k. (free_bits k old).gates) all }

pub free_goes : (width : ℕ) (old : List Gate) (i : ℕ) (so_far : List Lit) (now : List Gate) (o : Lit) (next : List Gate) → i < width →
    next ≡ (placed Free now).gates → o ≡ (placed Free now).value → Freed width old i so_far now → Freed width old (i + 1) (so_far ++ o ∷ []) next
free_goes width old i so_far now o next l e f s =
    let rest = free_bits (width - (i + 1)) next in
    let left : Out (List Lit) = record { value = o ∷ rest.value; gates = rest.gates } in
    let more : width - i ≡ suc (width - (i + 1)) = omega arith in
    let one : free_bits (width - i) now ≡ left = rw (more, e, f) refl in
    record {
      value = further so_far o rest.value _ _ (ap (λ (z : Out (List Lit)). z.value) one) s.value;
      gates = sym (ap (λ (z : Out (List Lit)). z.gates) one) ∙ s.gates;
    }

pub free_value : (width : ℕ) (old : List Gate) (i : ℕ) (so_far : List Lit) (now : List Gate) → width ≤ i → Freed width old i so_far now →
    so_far ≡ (free_bits width old).value
free_value width old i so_far now l s =
    let none : width - i ≡ 0 = omega arith in
    sym (append-nil so_far) ∙ ap (λ k. so_far ++ (free_bits k now).value) (sym none) ∙ s.value

pub free_gates : (width : ℕ) (old : List Gate) (i : ℕ) (so_far : List Lit) (now : List Gate) → width ≤ i → Freed width old i so_far now →
    now ≡ (free_bits width old).gates
free_gates width old i so_far now l s =
    let none : width - i ≡ 0 = omega arith in ap (λ k. (free_bits k now).gates) (sym none) ∙ s.gates

-- the same of a sum
pub record Adding (xs ys : List Lit) (first : Lit) (old : List Gate) (i : ℕ) (so_far : List Lit) (carry : Lit) (now : List Gate) : Type 0 where
  pub bits : so_far ++ (added (drop i xs) (drop i ys) carry now).value.bits ≡ (added xs ys first old).value.bits
  pub carry_is : (added (drop i xs) (drop i ys) carry now).value.carry ≡ (added xs ys first old).value.carry
  pub gates : (added (drop i xs) (drop i ys) carry now).gates ≡ (added xs ys first old).gates

pub added_begins : (xs ys : List Lit) (first : Lit) (old : List Gate) → Adding xs ys first old 0 [] first old
added_begins xs ys first old = record { bits = refl; carry_is = refl; gates = refl }

pub added_goes : (xs ys : List Lit) (first : Lit) (old : List Gate) (i : ℕ) (so_far : List Lit) (carry : Lit) (now : List Gate) (x y : Lit)
    (o : Carried) (next : List Gate) →
    i < length xs → i < length ys → x ≡ get_or xs i x → y ≡ get_or ys i y → next ≡ (added_bit x y carry now).gates → o ≡ (added_bit x y carry now).value →
    Adding xs ys first old i so_far carry now → Adding xs ys first old (i + 1) (so_far ++ o.bit ∷ []) o.carry next
added_goes xs ys first old i so_far carry now x y o next p q d b e f s =
    let rest = added (drop (i + 1) xs) (drop (i + 1) ys) o.carry next in
    let left : Out Sum = record { value = record { bits = o.bit ∷ rest.value.bits; carry = rest.value.carry }; gates = rest.gates } in
    let one : added (drop i xs) (drop i ys) carry now ≡ left = rw (rest_is xs i x p d, rest_is ys i y q b, e, f) refl in
    record {
      bits = further so_far o.bit rest.value.bits _ _ (ap (λ (z : Out Sum). z.value.bits) one) s.bits;
      carry_is = sym (ap (λ (z : Out Sum). z.value.carry) one) ∙ s.carry_is;
      gates = sym (ap (λ (z : Out Sum). z.gates) one) ∙ s.gates;
    }

added_none : (xs : List Lit) (carry : Lit) (now : List Gate) → added xs [] carry now ≡ record { value = record { bits = []; carry = carry }; gates = now }
added_none [] carry now = refl
added_none (x ∷ xs) carry now = refl

added_end : (xs ys : List Lit) (i : ℕ) (carry : Lit) (now : List Gate) → min (length xs) (length ys) ≤ i →
    added (drop i xs) (drop i ys) carry now ≡ record { value = record { bits = []; carry = carry }; gates = now }
added_end xs ys i carry now l =
    elim (short xs ys i l) as (λ _. added (drop i xs) (drop i ys) carry now ≡ record { value = record { bits = []; carry = carry }; gates = now }) [
      | inl e ↦ ap (λ z. added z (drop i ys) carry now) e
      | inr e ↦ ap (λ z. added (drop i xs) z carry now) e ∙ added_none (drop i xs) carry now
    ]

pub added_value : (xs ys : List Lit) (first : Lit) (old : List Gate) (i : ℕ) (so_far : List Lit) (carry : Lit) (now : List Gate) →
    min (length xs) (length ys) ≤ i →
    Adding xs ys first old i so_far carry now → so_far ≡ (added xs ys first old).value.bits
added_value xs ys first old i so_far carry now l s =
    sym (append-nil so_far) ∙ ap (λ (z : Out Sum). so_far ++ z.value.bits) (sym (added_end xs ys i carry now l)) ∙ s.bits

pub added_carry : (xs ys : List Lit) (first : Lit) (old : List Gate) (i : ℕ) (so_far : List Lit) (carry : Lit) (now : List Gate) →
    min (length xs) (length ys) ≤ i →
    Adding xs ys first old i so_far carry now → carry ≡ (added xs ys first old).value.carry
added_carry xs ys first old i so_far carry now l s = ap (λ (z : Out Sum). z.value.carry) (sym (added_end xs ys i carry now l)) ∙ s.carry_is

pub added_gates : (xs ys : List Lit) (first : Lit) (old : List Gate) (i : ℕ) (so_far : List Lit) (carry : Lit) (now : List Gate) →
    min (length xs) (length ys) ≤ i →
    Adding xs ys first old i so_far carry now → now ≡ (added xs ys first old).gates
added_gates xs ys first old i so_far carry now l s = ap (λ (z : Out Sum). z.gates) (sym (added_end xs ys i carry now l)) ∙ s.gates

-- the same of a product
pub record Multiplying (xs first ys : List Lit) (old : List Gate) (i : ℕ) (so_far : List Lit) (now : List Gate) : Type 0 where
  pub all : multiplied xs so_far i (drop i ys) now ≡ multiplied xs first 0 ys old

pub multiplied_begins : (xs first ys : List Lit) (old : List Gate) → Multiplying xs first ys old 0 first old
multiplied_begins xs first ys old = record { all = refl }

pub multiplied_goes : (xs first ys : List Lit) (old : List Gate) (i : ℕ) (so_far : List Lit) (now : List Gate) (y : Lit) (o : List Lit) (next : List Gate) →
    i < length ys → y ≡ get_or ys i y → next ≡ (multiplied_bit xs so_far i y now).gates → o ≡ (multiplied_bit xs so_far i y now).value →
    Multiplying xs first ys old i so_far now → Multiplying xs first ys old (i + 1) o next
multiplied_goes xs first ys old i so_far now y o next p d e f s =
    let one : multiplied xs so_far i (drop i ys) now ≡ multiplied xs o (i + 1) (drop (i + 1) ys) next = rw (rest_is ys i y p d, e, f) refl in
    record { all = sym one ∙ s.all }

multiplied_end : (xs first ys : List Lit) (old : List Gate) (i : ℕ) (so_far : List Lit) (now : List Gate) → length ys ≤ i →
    Multiplying xs first ys old i so_far now →
    record { value = so_far; gates = now } ≡ multiplied xs first 0 ys old
multiplied_end xs first ys old i so_far now l s = ap (λ z. multiplied xs so_far i z now) (sym (drop_all i ys l)) ∙ s.all

pub multiplied_value : (xs first ys : List Lit) (old : List Gate) (i : ℕ) (so_far : List Lit) (now : List Gate) → length ys ≤ i →
    Multiplying xs first ys old i so_far now →
    so_far ≡ (multiplied xs first 0 ys old).value
multiplied_value xs first ys old i so_far now l s = ap (λ (z : Out (List Lit)). z.value) (multiplied_end xs first ys old i so_far now l s)

pub multiplied_gates : (xs first ys : List Lit) (old : List Gate) (i : ℕ) (so_far : List Lit) (now : List Gate) → length ys ≤ i →
    Multiplying xs first ys old i so_far now →
    now ≡ (multiplied xs first 0 ys old).gates
multiplied_gates xs first ys old i so_far now l s = ap (λ (z : Out (List Lit)). z.gates) (multiplied_end xs first ys old i so_far now l s)

-- the same of a shift
pub record Shifting (way : Way) (first ys : List Lit) (old : List Gate) (i : ℕ) (so_far : List Lit) (now : List Gate) : Type 0 where
  pub all : shifted_near way so_far i (drop i ys) now ≡ shifted_near way first 0 ys old

pub shifted_begins : (way : Way) (first ys : List Lit) (old : List Gate) → Shifting way first ys old 0 first old
shifted_begins way first ys old = record { all = refl }

pub shifted_goes : (way : Way) (first ys : List Lit) (old : List Gate) (i : ℕ) (so_far : List Lit) (now : List Gate) (y : Lit) (o : List Lit)
    (next : List Gate) →
    i < length ys → y ≡ get_or ys i y → next ≡ (joined_each (joint.Pick y) (moved way (2 ^ i) so_far) so_far now).gates →
    o ≡ (joined_each (joint.Pick y) (moved way (2 ^ i) so_far) so_far now).value → Shifting way first ys old i so_far now →
    Shifting way first ys old (i + 1) o next
shifted_goes way first ys old i so_far now y o next p d e f s =
    let one : shifted_near way so_far i (drop i ys) now ≡ shifted_near way o (i + 1) (drop (i + 1) ys) next = rw (rest_is ys i y p d, e, f) refl in
    record { all = sym one ∙ s.all }

shifted_end : (way : Way) (first ys : List Lit) (old : List Gate) (i : ℕ) (so_far : List Lit) (now : List Gate) → length ys ≤ i →
    Shifting way first ys old i so_far now →
    record { value = so_far; gates = now } ≡ shifted_near way first 0 ys old
shifted_end way first ys old i so_far now l s = ap (λ z. shifted_near way so_far i z now) (sym (drop_all i ys l)) ∙ s.all

pub shifted_value : (way : Way) (first ys : List Lit) (old : List Gate) (i : ℕ) (so_far : List Lit) (now : List Gate) → length ys ≤ i →
    Shifting way first ys old i so_far now →
    so_far ≡ (shifted_near way first 0 ys old).value
shifted_value way first ys old i so_far now l s = ap (λ (z : Out (List Lit)). z.value) (shifted_end way first ys old i so_far now l s)

pub shifted_gates : (way : Way) (first ys : List Lit) (old : List Gate) (i : ℕ) (so_far : List Lit) (now : List Gate) → length ys ≤ i →
    Shifting way first ys old i so_far now →
    now ≡ (shifted_near way first 0 ys old).gates
shifted_gates way first ys old i so_far now l s = ap (λ (z : Out (List Lit)). z.gates) (shifted_end way first ys old i so_far now l s)

-- the same of OR of bits
pub record Anying (first : Lit) (xs : List Lit) (old : List Gate) (i : ℕ) (so_far : Lit) (now : List Gate) : Type 0 where
  pub all : any_bit so_far (drop i xs) now ≡ any_bit first xs old

pub any_begins : (first : Lit) (xs : List Lit) (old : List Gate) → Anying first xs old 0 first old
any_begins first xs old = record { all = refl }

pub any_goes : (first : Lit) (xs : List Lit) (old : List Gate) (i : ℕ) (so_far : Lit) (now : List Gate) (x o : Lit) (next : List Gate) →
    i < length xs → x ≡ get_or xs i x → next ≡ (either so_far x now).gates → o ≡ (either so_far x now).value → Anying first xs old i so_far now →
    Anying first xs old (i + 1) o next
any_goes first xs old i so_far now x o next p d e f s =
    let one : any_bit so_far (drop i xs) now ≡ any_bit o (drop (i + 1) xs) next = rw (rest_is xs i x p d, e, f) refl in
    record { all = sym one ∙ s.all }

any_end : (first : Lit) (xs : List Lit) (old : List Gate) (i : ℕ) (so_far : Lit) (now : List Gate) → length xs ≤ i → Anying first xs old i so_far now →
    record { value = so_far; gates = now } ≡ any_bit first xs old
any_end first xs old i so_far now l s = ap (λ z. any_bit so_far z now) (sym (drop_all i xs l)) ∙ s.all

pub any_value : (first : Lit) (xs : List Lit) (old : List Gate) (i : ℕ) (so_far : Lit) (now : List Gate) → length xs ≤ i →
    Anying first xs old i so_far now → so_far ≡ (any_bit first xs old).value
any_value first xs old i so_far now l s = ap (λ (z : Out Lit). z.value) (any_end first xs old i so_far now l s)

pub any_gates : (first : Lit) (xs : List Lit) (old : List Gate) (i : ℕ) (so_far : Lit) (now : List Gate) → length xs ≤ i →
    Anying first xs old i so_far now → now ≡ (any_bit first xs old).gates
any_gates first xs old i so_far now l s = ap (λ (z : Out Lit). z.gates) (any_end first xs old i so_far now l s)

-- the same of a comparison
pub record Equalling (first : Lit) (xs ys : List Lit) (old : List Gate) (i : ℕ) (so_far : Lit) (now : List Gate) : Type 0 where
  pub all : equal_bits so_far (drop i xs) (drop i ys) now ≡ equal_bits first xs ys old

pub equal_begins : (first : Lit) (xs ys : List Lit) (old : List Gate) → Equalling first xs ys old 0 first old
equal_begins first xs ys old = record { all = refl }

pub equal_goes : (first : Lit) (xs ys : List Lit) (old : List Gate) (i : ℕ) (so_far : Lit) (now : List Gate) (x y d o : Lit) (then next : List Gate) →
    i < length xs → i < length ys → x ≡ get_or xs i x → y ≡ get_or ys i y → then ≡ (placed (Xor x y) now).gates → d ≡ (placed (Xor x y) now).value →
    next ≡ (placed (And so_far (complement d)) then).gates → o ≡ (placed (And so_far (complement d)) then).value →
    Equalling first xs ys old i so_far now → Equalling first xs ys old (i + 1) o next
equal_goes first xs ys old i so_far now x y d o then next p q a b e f g h s =
    let one : equal_bits so_far (drop i xs) (drop i ys) now ≡ equal_bits o (drop (i + 1) xs) (drop (i + 1) ys) next
    = rw (rest_is xs i x p a, rest_is ys i y q b, g, h, e, f) refl in
    record { all = sym one ∙ s.all }

equal_none : (xs : List Lit) (so_far : Lit) (now : List Gate) → equal_bits so_far xs [] now ≡ record { value = so_far; gates = now }
equal_none [] so_far now = refl
equal_none (x ∷ xs) so_far now = refl

equal_rest : (xs ys : List Lit) (i : ℕ) (so_far : Lit) (now : List Gate) → min (length xs) (length ys) ≤ i →
    equal_bits so_far (drop i xs) (drop i ys) now ≡ record { value = so_far; gates = now }
equal_rest xs ys i so_far now l =
    elim (short xs ys i l) as (λ _. equal_bits so_far (drop i xs) (drop i ys) now ≡ record { value = so_far; gates = now }) [
      | inl e ↦ ap (λ z. equal_bits so_far z (drop i ys) now) e
      | inr e ↦ ap (λ z. equal_bits so_far (drop i xs) z now) e ∙ equal_none (drop i xs) so_far now
    ]

equal_end : (first : Lit) (xs ys : List Lit) (old : List Gate) (i : ℕ) (so_far : Lit) (now : List Gate) → min (length xs) (length ys) ≤ i →
    Equalling first xs ys old i so_far now →
    record { value = so_far; gates = now } ≡ equal_bits first xs ys old
equal_end first xs ys old i so_far now l s = sym (equal_rest xs ys i so_far now l) ∙ s.all

pub equal_value : (first : Lit) (xs ys : List Lit) (old : List Gate) (i : ℕ) (so_far : Lit) (now : List Gate) → min (length xs) (length ys) ≤ i →
    Equalling first xs ys old i so_far now →
    so_far ≡ (equal_bits first xs ys old).value
equal_value first xs ys old i so_far now l s = ap (λ (z : Out Lit). z.value) (equal_end first xs ys old i so_far now l s)

pub equal_gates : (first : Lit) (xs ys : List Lit) (old : List Gate) (i : ℕ) (so_far : Lit) (now : List Gate) → min (length xs) (length ys) ≤ i →
    Equalling first xs ys old i so_far now →
    now ≡ (equal_bits first xs ys old).gates
equal_gates first xs ys old i so_far now l s = ap (λ (z : Out Lit). z.gates) (equal_end first xs ys old i so_far now l s)

pub ruleset multiplied_rules = (multiplied_begins, multiplied_goes, multiplied_value, multiplied_gates)
