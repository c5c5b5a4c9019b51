-- Environments that are glued together of parts.
use Rattle.std.proofs.Common.{
  ◌≡◌,
  ◌<◌,
  ◌≤◌,
  ◌+◌,
  ◌-◌,
  ◌^◌,
  ◌==◌,
  ◌⊎◌,
  inl,
  inr,
  ℕ,
  zero,
  suc,
  Bool,
  true,
  false,
  if◌then◌else◌,
  List,
  [],
  ◌∷◌,
  take,
  All,
  Some,
  slice_get,
  refl,
  sym,
  ap,
  ◌∙◌,
  subst,
  arith,
}
use Rattle.std.specs.Prelude.{nat_lt, nat_le}
use Rattle.std.proofs.lemmas.Bool.{cases_lt, leb-true, le-leb, ltb-true, lt-ltb, and_from}
use Rattle.std.proofs.lemmas.Nat.{pow_pos}
use Rattle.std.proofs.lemmas.List.Elements.{All-head, All-tail, All-cons, All-nil, All-weaker}
use Rattle.std.proofs.Math.Pow.{pow_mono}
use Rattle.ygg_value.specs.Words.{bit_of}
use Rattle.ygg_sym_laws.specs.ygg_meaning_laws_proofs_Tests.{left as first_of, right as second_of}
use Rattle.ygg_sym_laws.specs.ygg_bank_proofs_Widths.{stored_can}
use Rattle.ygg_sym_laws.specs.ygg_bank.Nodes.{InOrder}
use Rattle.ygg_sym_laws.specs.ygg_bank.Values.{InputsFit}
use Rattle.ygg_sym_laws.specs.ygg_bank.declared.node.Node.{Node}
use Rattle.ygg_sym_laws.specs.ygg_bank.declared.node.Node.TheVariants.{Input}
use Rattle.ygg_sym_laws.specs.ygg_shape_words_proofs_Terms.{bit_is}
use Rattle.ygg_oblige_laws.specs.Inputs.{word_width, AreDigits, Part, is_within, glued, InTurn, InputTakes, PartFits, GluedMeans}

take_there : {X : Type 0} (xs : List X) (j k : ℕ) (x : X) → j < k → slice_get xs j ≡ Some x → slice_get (take k xs) j ≡ Some x
take_there [] j k x l e = absurd (cc)
take_there (y ∷ xs) j zero x l e = absurd (omega arith)
take_there (y ∷ xs) zero (suc k) x l e = e
take_there (y ∷ xs) (suc j) (suc k) x l e = take_there xs j k x (omega arith) e

-- among nodes in order the inputs of one number have one width
pub one_width : (nodes : List Node) (j k number w u : ℕ) → InOrder [] nodes → slice_get nodes j ≡ Some (Input number w) →
    slice_get nodes k ≡ Some (Input number u) → w ≡ u
one_width nodes j k number w u o e f = go (cases_lt j k) (cases_lt k j) where
  go : (j < k) ⊎ (k ≤ j) → (k < j) ⊎ (j ≤ k) → w ≡ u
  go (inl l) m = let c = stored_can nodes k (Input number u) o f in c.1 j w (take_there nodes j k (Input number w) l e)
  go (inr m) (inl l) = let c = stored_can nodes j (Input number w) o e in sym (c.1 k u (take_there nodes k j (Input number u) l f))
  go (inr m) (inr l) =
      let s : j ≡ k = omega arith in
      let g : Some (Input number w) ≡ Some (Input number u) = sym (subst (λ z. slice_get nodes z ≡ Some (Input number w)) s e) ∙ f in cc

-- a width has room for a digit
two_below : (w : ℕ) → 1 ≤ w → 2 ≤ 2 ^ w
two_below w l = let h : 2 ^ 1 ≤ 2 ^ w = pow_mono l in omega (arith, h)

within : (p : Part) (number : ℕ) → is_within p number ≡ true → (p.first ≤ number) × (number < p.first + p.count)
within p number e = (
  leb-true p.first number (first_of (nat_le p.first number) (nat_lt number (p.first + p.count)) e),
  ltb-true number (p.first + p.count) (second_of (nat_le p.first number) (nat_lt number (p.first + p.count)) e),
)

is_in : (p : Part) (i : ℕ) → i < p.count → is_within p (p.first + i) ≡ true
is_in p i l =
    and_from (nat_le p.first (p.first + i)) (nat_lt (p.first + i) (p.first + p.count)) (le-leb p.first (p.first + i) (omega arith))
    (lt-ltb (p.first + i) (p.first + p.count) (omega arith))

not_true : (b : Bool) → (b ≡ true → ⊥) → b ≡ false
not_true true f = absurd (f refl)
not_true false f = refl

is_out : (p : Part) (number : ℕ) → p.first + p.count ≤ number → is_within p number ≡ false
is_out p number l = not_true (is_within p number) (λ e. let h = within p number e in let k = h.1 in omega arith)

at_case : (p : Part) (ps : List Part) (number n : ℕ) (t : Bool) → is_within p number ≡ t → (t ≡ true → p.digits (number - p.first) ≡ n) →
    (t ≡ false → glued ps number ≡ n) → glued (p ∷ ps) number ≡ n
at_case p ps number n true e f g = ap (λ t. if t then p.digits (number - p.first) else glued ps number) e ∙ f refl
at_case p ps number n false e f g = ap (λ t. if t then p.digits (number - p.first) else glued ps number) e ∙ g refl

-- a part that comes later, or a number past the first part
later_digits : (p : Part) (ps : List Part) (q : Part) → p.first + p.count ≤ q.first → AreDigits (glued ps) q.first q.count q.digits →
    AreDigits (glued (p ∷ ps)) q.first q.count q.digits
later_digits p ps q l h i k =
    ap (λ t. if t then p.digits (q.first + i - p.first) else glued ps (q.first + i)) (is_out p (q.first + i) (omega arith)) ∙ h i k

-- the parts begin at a number or later
pub starts_late : (from : ℕ) (parts : List Part) → InTurn from parts → All (λ (p : Part). from ≤ p.first) parts
starts_late from [] h = All-nil (λ (p : Part). from ≤ p.first)
starts_late from (p ∷ ps) h =
    let l = h.0 in
    All-cons (λ (p : Part). from ≤ p.first) p ps l
    (All-weaker (λ (q : Part). p.first + p.count ≤ q.first) (λ (q : Part). from ≤ q.first) (λ q m. omega arith) ps (starts_late (p.first + p.count) ps h.1))

both_all : {X : Type 0} (P Q R : X → Type 0) → ((x : X) → P x → Q x → R x) → (xs : List X) → All P xs → All Q xs → All R xs
both_all P Q R f [] p q = All-nil R
both_all P Q R f (x ∷ xs) p q =
    All-cons R x xs (f x (All-head P x xs p) (All-head Q x xs q)) (both_all P Q R f xs (All-tail P x xs p) (All-tail Q x xs q))

glued_digits : (from : ℕ) (parts : List Part) → InTurn from parts → All (λ (p : Part). AreDigits (glued parts) p.first p.count p.digits) parts
glued_digits from [] h = All-nil (λ (p : Part). AreDigits (glued []) p.first p.count p.digits)
glued_digits from (p ∷ ps) h =
    All-cons (λ (q : Part). AreDigits (glued (p ∷ ps)) q.first q.count q.digits) p ps
    (λ i l.
    let e : p.first + i - p.first ≡ i = omega arith in
    ap (λ t. if t then p.digits (p.first + i - p.first) else glued ps (p.first + i)) (is_in p i l) ∙ ap p.digits e)
    (both_all (λ (q : Part). p.first + p.count ≤ q.first) (λ (q : Part). AreDigits (glued ps) q.first q.count q.digits)
    (λ (q : Part). AreDigits (glued (p ∷ ps)) q.first q.count q.digits) (λ q l k. later_digits p ps q l k) ps
    (starts_late (p.first + p.count) ps h.1) (glued_digits (p.first + p.count) ps h.1))

glued_fit : (nodes : List Node) (parts : List Part) → InOrder [] nodes → All (PartFits nodes) parts → InputsFit (glued parts) nodes
glued_fit nodes [] o f place number w e = pow_pos w
glued_fit nodes (p ∷ ps) o f place number w e =
    go (is_within p number) refl (glued_fit nodes ps o (All-tail (PartFits nodes) p ps f) place number w e) where
      fits : (i : ℕ) → p.first + i ≡ number → (p.digits i < 2) ⊎ InputTakes nodes (p.first + i) (p.digits i) → p.digits i < 2 ^ w
      fits i s (inl l) = let c = stored_can nodes place (Input number w) o e in let width = c.0 in let h = two_below w width.least in omega arith
      fits i s (inr t) =
          let at = t.at in
          let there = subst (λ z. slice_get nodes at.place ≡ Some (Input z t.width)) s at.stands in
          subst (λ z. p.digits i < 2 ^ z) (one_width nodes at.place place number t.width w o there e) t.fits

      go : (t : Bool) → is_within p number ≡ t → glued ps number < 2 ^ w → (if t then p.digits (number - p.first) else glued ps number) < 2 ^ w
      go true s rest =
          let h = within p number s in
          let l = h.0 in
          let m = h.1 in
          fits (number - p.first) (omega arith) (All-head (PartFits nodes) p ps f (number - p.first) (omega arith))
      go false s rest = rest

bit_small : (b : Bool) → bit_of b < 2
bit_small true = omega arith
bit_small false = omega arith

pub glued_means : GluedMeans
glued_means = record {
  digits = glued_digits;
  fit = glued_fit;
  env_fits = λ nodes number ds env e stand i l. inr (record { width = word_width ds i; at = stand i l; fits = e.fit i l });
  bits_fit = λ nodes first count bits i l. inl (bit_small (bits i));
  bits_are = λ inputs first count bits h i l. ap (λ z. z == 1) (h i l) ∙ bit_is (bits i);
}
