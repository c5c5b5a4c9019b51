-- An equality with a constant is what it is undone to.
use Rattle.std.proofs.Common.{
  ◌≡◌,
  ◌<◌,
  ◌≤◌,
  ◌==◌,
  ◌&&◌,
  ◌^◌,
  ◌%◌,
  ◌+◌,
  ◌-◌,
  ◌*◌,
  ℕ,
  Bool,
  true,
  false,
  if◌then◌else◌,
  Option,
  Some,
  None,
  List,
  [],
  slice_get,
  refl,
  sym,
  ap,
  ◌∙◌,
  subst,
  arith,
}
use Rattle.std.specs.Prelude.{nat_lt, bit_and, bit_or}
use Rattle.std.proofs.Math.Nat.{add_comm, mul_comm, mod-eq_of_lt, pow-le-pow_right, lt_of_lt_of_le}
use Rattle.std.proofs.lemmas.Nat.{xor_comm, or_comm, pow_pos}
use Rattle.std.proofs.lemmas.Bool.Decides.{nat_tests, Decides-eqb}
use Rattle.ygg_value.proofs.Results.{apply_to-IsWord, not_of-IsWord}
use Rattle.ygg_value.specs.Number.{Number, IsWord}
use Rattle.ygg_value.specs.Words.{word, apply_to, not_of, result_width, CanApply}
use Rattle.ygg_value.specs.declared.operation.Op.{Op}
use Rattle.ygg_value.specs.declared.operation.Op.TheVariants.{Add, Sub, Mul, Or, Xor, Shl, Shr}
use Rattle.ygg_bank.proofs.Fitting.{constant_there}
use Rattle.ygg_bank.proofs.Widths.{width_is, own_width, has_width, stands, width_fits, constant_word}
use Rattle.ygg_bank.specs.Making.{known_in}
use Rattle.ygg_bank.specs.Nodes.{width_at, widths_of, HasWidth, Stands, InOrder}
use Rattle.ygg_bank.specs.Values.{Inputs, Values, Fits}
use Rattle.ygg_bank.specs.declared.node.Id.{Id}
use Rattle.ygg_bank.specs.declared.node.Node.{Node}
use Rattle.ygg_bank.specs.declared.node.Node.TheVariants.{Const, Bin, Not, Resize}
use Rattle.ygg_shape_words.proofs.Children.{bin_alike, bin_stands, not_wide, resize_stands, shift_wide}
use Rattle.ygg_shape_words.proofs.Tests.{add_undone, sub_undone, sub_turned, mul_undone, not_undone, xor_undone, or_undone, up, down, shift_undone}
use Rattle.ygg_shape_words.proofs.Masks.{may_cover, never_is}
use Rattle.ygg_shape_words.specs.Digits.{may_have, may_be, Covers}
use Rattle.ygg_shape_words.specs.declared.digits.TheConstants.{DIGIT_DEPTH}
use Rattle.ygg_shape_words.specs.Forms.{ConstantFits, against, comes_back, undo_node, undo_bin, undo_first, undo_second, inverse_of, nearer}
use Rattle.ygg_shape_words.specs.declared.forms.Form.{Form}
use Rattle.ygg_shape_words.specs.declared.forms.Form.TheVariants as form

below : (x k : Number) → IsWord x → x.width ≡ k.width → x.bits < 2 ^ k.width
below x k h e = subst (λ w. x.bits < 2 ^ w) e h.fits

-- how an operation on a word x, done by this function, is undone: its equality with k is the equality of x with the word that this one gives
record Undoes (f back : Number → Number) (k : Number) : Type 0 where
  is_word : IsWord (back k)
  wide : (back k).width ≡ k.width
  words : (x : Number) → IsWord x → x.width ≡ k.width → ((f x).bits == k.bits) ≡ (x.bits == (back k).bits)

module _ (c k : Number) (q : IsWord c) (r : IsWord k) (e : c.width ≡ k.width) where
  add_first : Undoes (λ x. apply_to Add x c) (λ k. apply_to Sub k c) k
  add_first = record {
    is_word = apply_to-IsWord Sub k c r q (sym e);
    wide = refl;
    words = λ x p d. ap (λ w. (x.bits + c.bits) % 2 ^ w == k.bits) d ∙ add_undone (2 ^ k.width) x.bits c.bits k.bits (below x k p d) (below c k q e) r.fits;
  }

  sub_first : Undoes (λ x. apply_to Sub x c) (λ k. apply_to Add k c) k
  sub_first = record {
    is_word = apply_to-IsWord Add k c r q (sym e);
    wide = refl;
    words = λ x p d. ap (λ w. (x.bits + 2 ^ w - c.bits) % 2 ^ w == k.bits) d
        ∙ sub_undone (2 ^ k.width) x.bits c.bits k.bits (below x k p d) (below c k q e) r.fits;
  }

  xor_first : Undoes (λ x. apply_to Xor x c) (λ k. apply_to Xor k c) k
  xor_first = record { is_word = apply_to-IsWord Xor k c r q (sym e); wide = refl; words = λ x p d. xor_undone x.bits c.bits k.bits }

  add_second : Undoes (λ x. apply_to Add c x) (λ k. apply_to Sub k c) k
  add_second = record {
    is_word = apply_to-IsWord Sub k c r q (sym e);
    wide = refl;
    words = λ x p d. ap (λ w. (c.bits + x.bits) % 2 ^ w == k.bits) e ∙ ap (λ z. z % 2 ^ k.width == k.bits) (add_comm c.bits x.bits)
        ∙ add_undone (2 ^ k.width) x.bits c.bits k.bits (below x k p d) (below c k q e) r.fits;
  }

  sub_second : Undoes (λ x. apply_to Sub c x) (λ k. apply_to Sub c k) k
  sub_second = record {
    is_word = apply_to-IsWord Sub c k q r e;
    wide = e;
    words = λ x p d. ap (λ w. (c.bits + 2 ^ w - x.bits) % 2 ^ w == k.bits) e
        ∙ sub_turned (2 ^ k.width) x.bits c.bits k.bits (below x k p d) (below c k q e) r.fits
        ∙ ap (λ w. x.bits == (c.bits + 2 ^ w - k.bits) % 2 ^ w) (sym e);
  }

  xor_second : Undoes (λ x. apply_to Xor c x) (λ k. apply_to Xor k c) k
  xor_second = record {
    is_word = apply_to-IsWord Xor k c r q (sym e);
    wide = refl;
    words = λ x p d. ap (λ z. z == k.bits) (xor_comm c.bits x.bits) ∙ xor_undone x.bits c.bits k.bits;
  }

  module _ (i : Number) (j : IsWord i) (d : i.width ≡ c.width) (h : ((apply_to Mul c i).bits == 1) ≡ true) where
    inverts : (c.bits * i.bits) % 2 ^ k.width ≡ 1
    inverts = ap (λ w. (c.bits * i.bits) % 2 ^ w) (sym e) ∙ (Decides-eqb (apply_to Mul c i).bits 1).0 h

    mul_first : Undoes (λ x. apply_to Mul x c) (λ k. apply_to Mul k i) k
    mul_first = record {
      is_word = apply_to-IsWord Mul k i r j (sym (d ∙ e));
      wide = refl;
      words = λ x p f. ap (λ w. (x.bits * c.bits) % 2 ^ w == k.bits) f ∙ mul_undone (2 ^ k.width) x.bits c.bits i.bits k.bits (below x k p f) r.fits inverts;
    }

    mul_second : Undoes (λ x. apply_to Mul c x) (λ k. apply_to Mul k i) k
    mul_second = record {
      is_word = apply_to-IsWord Mul k i r j (sym (d ∙ e));
      wide = refl;
      words = λ x p f. ap (λ w. (c.bits * x.bits) % 2 ^ w == k.bits) e ∙ ap (λ z. z % 2 ^ k.width == k.bits) (mul_comm c.bits x.bits)
          ∙ mul_undone (2 ^ k.width) x.bits c.bits i.bits k.bits (below x k p f) r.fits inverts;
    }

-- a step of the iteration gives a word of the width
nearer_word : (c i : Number) → IsWord c → IsWord i → c.width ≡ i.width → IsWord (nearer c i)
nearer_word c i q j e =
    let s : Number = apply_to Mul i i in
    apply_to-IsWord Sub (apply_to Add i i) (apply_to Mul c s) (apply_to-IsWord Add i i j j refl)
    (apply_to-IsWord Mul c s q (apply_to-IsWord Mul i i j j refl) e) (sym e)

inverse_word : (c : Number) → IsWord c → IsWord (inverse_of c) × ((inverse_of c).width ≡ c.width)
unfolding inverse_of
inverse_word c q =
    let six = nearer c c in
    let twelve = nearer c six in
    let more = nearer c twelve in
    let most = nearer c more in (
      nearer_word c most q (nearer_word c more q (nearer_word c twelve q (nearer_word c six q (nearer_word c c q q refl) refl) refl) refl) refl,
      refl,
    )

not_words : (k : Number) → IsWord k → Undoes not_of not_of k
not_words k q = record {
  is_word = not_of-IsWord k q;
  wide = refl;
  words = λ x p e. ap (λ w. 2 ^ w - 1 - x.bits == k.bits) e ∙ not_undone (2 ^ k.width) x.bits k.bits (below x k p e) q.fits;
}

-- the constant that is known of an operand has the width of the other operand
known_wide : (nodes : List Node) (w : ℕ) (y : Id) (c : Number) → InOrder [] nodes → HasWidth nodes y w → known_in (slice_get nodes y.0) ≡ Some c → c.width ≡ w
known_wide nodes w y c o h e = sym (width_is nodes y c.width (own_width nodes y.0 (Const c) o (constant_there nodes y c e))) ∙ width_is nodes y w h

-- the widths of the operands of an operation whose result is as wide
own_operands : (nodes : List Node) (a x y : Id) (op : Op) (w : ℕ) → InOrder [] nodes → slice_get nodes a.0 ≡ Some (Bin op x y) → HasWidth nodes a w →
    ((x y : Number) → CanApply op x y → x.width ≡ y.width) → ((w : ℕ) → result_width op w ≡ w) → HasWidth nodes x w × HasWidth nodes y w
own_operands nodes a x y op w o e h alike wide =
    let m = bin_alike nodes a.0 op x y o e alike in
    let own : m.width ≡ w =
    sym (width_is nodes x m.width m.one_has) ∙ sym (wide (width_at (widths_of nodes) x))
    ∙ sym (width_is nodes a (result_width op (width_at (widths_of nodes) x)) (own_width nodes a.0 (Bin op x y) o e)) ∙ width_is nodes a w h in
    (m.one_has ∙ ap (λ z. Some z) own, m.two_has ∙ ap (λ z. Some z) own)

-- the constants that are known of the operands fit
fits_case : (nodes : List Node) (w : ℕ) (y : Id) (k : Number) (o : Option Number) → known_in (slice_get nodes y.0) ≡ o → InOrder [] nodes → HasWidth nodes y w →
    w ≡ k.width → (c : Number) → o ≡ Some c → c.width ≡ k.width
fits_case nodes w y k o e i h d c f = known_wide nodes w y c i h (e ∙ f) ∙ d

pub constant_fits : (nodes : List Node) (a x y z : Id) (op : Op) (k : Number) (o : Option Number) → InOrder [] nodes → slice_get nodes a.0 ≡ Some (Bin op x y) →
    HasWidth nodes a k.width → known_in (slice_get nodes z.0) ≡ o → ((w : ℕ) → HasWidth nodes x w × HasWidth nodes y w → HasWidth nodes z w) →
    ConstantFits op k o
constant_fits nodes a x y z Add k (Some c) i e h f g =
    known_wide nodes k.width z c i (g k.width (own_operands nodes a x y Add k.width i e h (λ x y d. d) (λ w. refl))) f
constant_fits nodes a x y z Sub k (Some c) i e h f g =
    known_wide nodes k.width z c i (g k.width (own_operands nodes a x y Sub k.width i e h (λ x y d. d) (λ w. refl))) f
constant_fits nodes a x y z Mul k (Some c) i e h f g =
    known_wide nodes k.width z c i (g k.width (own_operands nodes a x y Mul k.width i e h (λ x y d. d) (λ w. refl))) f
constant_fits nodes a x y z Or k (Some c) i e h f g =
    known_wide nodes k.width z c i (g k.width (own_operands nodes a x y Or k.width i e h (λ x y d. d) (λ w. refl))) f
constant_fits nodes a x y z Xor k (Some c) i e h f g =
    known_wide nodes k.width z c i (g k.width (own_operands nodes a x y Xor k.width i e h (λ x y d. d) (λ w. refl))) f
constant_fits nodes a x y z op k o i e h f g = tt

-- of numbers below 2 ^ u, at a width that has as many digits
wide_bits : (u w n : ℕ) → u ≤ w → n < 2 ^ u → n % 2 ^ w ≡ n
wide_bits u w n l h = mod-eq_of_lt (lt_of_lt_of_le h (pow-le-pow_right {n = 2} (omega arith) l))

never_equal : (x k m : ℕ) → x < m → nat_lt k m ≡ false → (x == k) ≡ false
never_equal x k m l e = grind (arith, nat_tests)

is_below : (k m : ℕ) → nat_lt k m ≡ true → k < m
is_below k m e = grind (arith, nat_tests)

not_below : (w u : ℕ) → nat_lt w u ≡ false → u ≤ w
not_below w u e = grind (arith, nat_tests)

module _ (inputs : Inputs) (v : Values) (nodes : List Node) (f : Fits inputs v nodes) where
  -- the form says whether the term is the constant
  abbrev pub IsAgainst : Id → Number → Form → Type 0
  IsAgainst a k form.One = ((v a.0).bits == k.bits) ≡ true
  IsAgainst a k form.Never = ((v a.0).bits == k.bits) ≡ false
  IsAgainst a k (form.Against x m) = HasWidth nodes x m.width × IsWord m × (((v a.0).bits == k.bits) ≡ ((v x.0).bits == m.bits))
  IsAgainst a k form.Plain = Unit {0}
  IsAgainst a k g = ⊥

  -- an operation that is undone
  undone : (a x : Id) (k : Number) (g back : Number → Number) → Undoes g back k → v a.0 ≡ g (v x.0) → HasWidth nodes x k.width →
      IsAgainst a k (form.Against x (back k))
  undone a x k g back u e h =
      (h ∙ ap (λ z. Some z) (sym u.wide), u.is_word, ap (λ (z : Number). z.bits == k.bits) e ∙ u.words (v x.0) (f.words x.0) (f.widths x.0 k.width h))

  -- what an operand is that is known
  known_value : (y : Id) (c : Number) → known_in (slice_get nodes y.0) ≡ Some c → v y.0 ≡ c
  known_value y c e = f.values y.0 (Const c) (constant_there nodes y c e)

  known_word : (y : Id) (c : Number) → known_in (slice_get nodes y.0) ≡ Some c → IsWord c
  known_word y c e = constant_word nodes y.0 c f.ordered (constant_there nodes y c e)

  -- a product that is undone where the constant has this inverse
  product_is : (a x : Id) (k c i : Number) (b : Bool) → ((apply_to Mul c i).bits == 1) ≡ b → (g : Number → Number) → v a.0 ≡ g (v x.0) →
      HasWidth nodes x k.width → (((apply_to Mul c i).bits == 1) ≡ true → Undoes g (λ k. apply_to Mul k i) k) →
      IsAgainst a k (if b then form.Against x (apply_to Mul k i) else form.Plain)
  product_is a x k c i true d g e h u = undone a x k g (λ z. apply_to Mul z i) (u d) e h
  product_is a x k c i false d g e h u = tt

  -- a constant's digits that are put to a word are undone where the word has none of them
  or_is : (a x : Id) (k c m : Number) (b : Bool) → (bit_and m.bits c.bits == 0) ≡ b → IsWord c → IsWord k → c.width ≡ k.width → Covers m (v x.0) →
      HasWidth nodes x k.width → (v a.0).bits ≡ bit_or (v x.0).bits c.bits → IsAgainst a k (if b then form.Against x (apply_to Xor k c) else form.Plain)
  or_is a x k c m true d q r e h g i = (
    g,
    apply_to-IsWord Xor k c r q (sym e),
    ap (λ z. z == k.bits) i ∙ or_undone (v x.0).bits m.bits c.bits k.bits h.digits ((Decides-eqb (bit_and m.bits c.bits) 0).0 d),
  )
  or_is a x k c m false d q r e h g i = tt

  -- a shift up is undone where it moves no digit out, and the constant has none of those that it moves in
  shift_is : (a x : Id) (k c m : Number) (b d : Bool) → comes_back Shl Shr m c ≡ b → comes_back Shr Shl k c ≡ d → IsWord c → IsWord k → Covers m (v x.0) →
      HasWidth nodes x k.width → v a.0 ≡ apply_to Shl (v x.0) c → IsAgainst a k (if b && d then form.Against x (apply_to Shr k c) else form.Plain)
  shift_is a x k c m true true s u q r h g i =
      let t = nat_lt c.bits k.width in
      let p = 2 ^ c.bits in
      let n = 2 ^ k.width in
      let own : (v x.0).width ≡ k.width = f.widths x.0 k.width g in
      let back : down t p (up t p n m.bits) ≡ m.bits =
      ap (λ w. down (nat_lt c.bits w) p (up (nat_lt c.bits w) p (2 ^ w) m.bits)) (sym (h.width ∙ own))
      ∙ (Decides-eqb (apply_to Shr (apply_to Shl m c) c).bits m.bits).0 s in (
        g,
        apply_to-IsWord Shr k c r q tt,
        ap (λ (z : Number). z.bits == k.bits) i ∙ ap (λ w. up (nat_lt c.bits w) p (2 ^ w) (v x.0).bits == k.bits) own
            ∙ shift_undone t p n (v x.0).bits m.bits k.bits (pow_pos c.bits) (pow_pos k.width) h.digits back
            ((Decides-eqb (apply_to Shl (apply_to Shr k c) c).bits k.bits).0 u),
      )
  shift_is a x k c m true false s u q r h g i = tt
  shift_is a x k c m false d s u q r h g i = tt

  first_is : (op : Op) (a x y : Id) (k c : Number) → slice_get nodes a.0 ≡ Some (Bin op x y) → HasWidth nodes a k.width → IsWord k →
      known_in (slice_get nodes y.0) ≡ Some c → IsAgainst a k (undo_first nodes op x k c)
  first_is Add a x y k c e h r g =
      let p = own_operands nodes a x y Add k.width f.ordered e h (λ x y d. d) (λ w. refl) in
      undone a x k (λ z. apply_to Add z c) (λ z. apply_to Sub z c) (add_first c k (known_word y c g) r (known_wide nodes k.width y c f.ordered p.1 g))
      (f.values a.0 (Bin Add x y) e ∙ ap (apply_to Add (v x.0)) (known_value y c g)) p.0
  first_is Sub a x y k c e h r g =
      let p = own_operands nodes a x y Sub k.width f.ordered e h (λ x y d. d) (λ w. refl) in
      undone a x k (λ z. apply_to Sub z c) (λ z. apply_to Add z c) (sub_first c k (known_word y c g) r (known_wide nodes k.width y c f.ordered p.1 g))
      (f.values a.0 (Bin Sub x y) e ∙ ap (apply_to Sub (v x.0)) (known_value y c g)) p.0
  first_is Mul a x y k c e h r g =
      let p = own_operands nodes a x y Mul k.width f.ordered e h (λ x y d. d) (λ w. refl) in
      let q = known_word y c g in
      let i = inverse_word c q in
      product_is a x k c (inverse_of c) ((apply_to Mul c (inverse_of c)).bits == 1) refl (λ z. apply_to Mul z c)
      (f.values a.0 (Bin Mul x y) e ∙ ap (apply_to Mul (v x.0)) (known_value y c g)) p.0
      (mul_first c k q r (known_wide nodes k.width y c f.ordered p.1 g) (inverse_of c) i.0 i.1)
  first_is Xor a x y k c e h r g =
      let p = own_operands nodes a x y Xor k.width f.ordered e h (λ x y d. d) (λ w. refl) in
      undone a x k (λ z. apply_to Xor z c) (λ z. apply_to Xor z c) (xor_first c k (known_word y c g) r (known_wide nodes k.width y c f.ordered p.1 g))
      (f.values a.0 (Bin Xor x y) e ∙ ap (apply_to Xor (v x.0)) (known_value y c g)) p.0
  first_is Or a x y k c e h r g =
      let p = own_operands nodes a x y Or k.width f.ordered e h (λ x y d. d) (λ w. refl) in
      let m = may_have nodes x in
      or_is a x k c m (bit_and m.bits c.bits == 0) refl (known_word y c g) r (known_wide nodes k.width y c f.ordered p.1 g)
      (may_cover inputs v nodes f DIGIT_DEPTH x (bin_stands nodes a.0 Or x y f.ordered e).0) p.0
      (ap (λ (z : Number). z.bits) (f.values a.0 (Bin Or x y) e ∙ ap (apply_to Or (v x.0)) (known_value y c g)))
  first_is Shl a x y k c e h r g =
      let m = may_have nodes x in
      shift_is a x k c m (comes_back Shl Shr m c) (comes_back Shr Shl k c) refl refl (known_word y c g) r
      (may_cover inputs v nodes f DIGIT_DEPTH x (bin_stands nodes a.0 Shl x y f.ordered e).0) (shift_wide nodes a.0 k.width x y f.ordered e h)
      (f.values a.0 (Bin Shl x y) e ∙ ap (apply_to Shl (v x.0)) (known_value y c g))
  first_is op a x y k c e h r g = tt

  second_is : (op : Op) (a x y : Id) (k c : Number) → slice_get nodes a.0 ≡ Some (Bin op x y) → HasWidth nodes a k.width → IsWord k →
      known_in (slice_get nodes x.0) ≡ Some c → IsAgainst a k (undo_second nodes op y k c)
  second_is Add a x y k c e h r g =
      let p = own_operands nodes a x y Add k.width f.ordered e h (λ x y d. d) (λ w. refl) in
      undone a y k (λ z. apply_to Add c z) (λ z. apply_to Sub z c) (add_second c k (known_word x c g) r (known_wide nodes k.width x c f.ordered p.0 g))
      (f.values a.0 (Bin Add x y) e ∙ ap (λ z. apply_to Add z (v y.0)) (known_value x c g)) p.1
  second_is Sub a x y k c e h r g =
      let p = own_operands nodes a x y Sub k.width f.ordered e h (λ x y d. d) (λ w. refl) in
      undone a y k (λ z. apply_to Sub c z) (λ z. apply_to Sub c z) (sub_second c k (known_word x c g) r (known_wide nodes k.width x c f.ordered p.0 g))
      (f.values a.0 (Bin Sub x y) e ∙ ap (λ z. apply_to Sub z (v y.0)) (known_value x c g)) p.1
  second_is Mul a x y k c e h r g =
      let p = own_operands nodes a x y Mul k.width f.ordered e h (λ x y d. d) (λ w. refl) in
      let q = known_word x c g in
      let i = inverse_word c q in
      product_is a y k c (inverse_of c) ((apply_to Mul c (inverse_of c)).bits == 1) refl (λ z. apply_to Mul c z)
      (f.values a.0 (Bin Mul x y) e ∙ ap (λ z. apply_to Mul z (v y.0)) (known_value x c g)) p.1
      (mul_second c k q r (known_wide nodes k.width x c f.ordered p.0 g) (inverse_of c) i.0 i.1)
  second_is Xor a x y k c e h r g =
      let p = own_operands nodes a x y Xor k.width f.ordered e h (λ x y d. d) (λ w. refl) in
      undone a y k (λ z. apply_to Xor c z) (λ z. apply_to Xor z c) (xor_second c k (known_word x c g) r (known_wide nodes k.width x c f.ordered p.0 g))
      (f.values a.0 (Bin Xor x y) e ∙ ap (λ z. apply_to Xor z (v y.0)) (known_value x c g)) p.1
  second_is Or a x y k c e h r g =
      let p = own_operands nodes a x y Or k.width f.ordered e h (λ x y d. d) (λ w. refl) in
      let m = may_have nodes y in
      or_is a y k c m (bit_and m.bits c.bits == 0) refl (known_word x c g) r (known_wide nodes k.width x c f.ordered p.0 g)
      (may_cover inputs v nodes f DIGIT_DEPTH y (bin_stands nodes a.0 Or x y f.ordered e).1) p.1
      (ap (λ (z : Number). z.bits) (f.values a.0 (Bin Or x y) e ∙ ap (λ z. apply_to Or z (v y.0)) (known_value x c g))
      ∙ or_comm c.bits (v y.0).bits)
  second_is op a x y k c e h r g = tt

  bin_is : (op : Op) (a x y : Id) (k : Number) (one two : Option Number) → slice_get nodes a.0 ≡ Some (Bin op x y) → HasWidth nodes a k.width → IsWord k →
      known_in (slice_get nodes x.0) ≡ one → known_in (slice_get nodes y.0) ≡ two → IsAgainst a k (undo_bin nodes op x y k one two)
  bin_is op a x y k one (Some c) e h r d g = first_is op a x y k c e h r g
  bin_is op a x y k (Some c) None e h r d g = second_is op a x y k c e h r d
  bin_is op a x y k None None e h r d g = tt

  -- the number of a term that has so many digits
  few_digits : (x : Id) (u : ℕ) → HasWidth nodes x u → (v x.0).bits < 2 ^ u
  few_digits x u h = let p = f.words x.0 in subst (λ w. (v x.0).bits < 2 ^ w) (f.widths x.0 u h) p.fits

  -- a term at a width that has its digits keeps its number
  same_bits : (a x : Id) (u w : ℕ) → nat_lt w u ≡ false → slice_get nodes a.0 ≡ Some (Resize x w) → HasWidth nodes x u → (v a.0).bits ≡ (v x.0).bits
  same_bits a x u w d e h =
      ap (λ (z : Number). z.bits) (f.values a.0 (Resize x w) e) ∙ wide_bits u w (v x.0).bits (not_below w u d) (few_digits x u h)

  resize_is : (a x : Id) (k : Number) (u w : ℕ) (b c : Bool) → nat_lt w u ≡ b → nat_lt k.bits (2 ^ u) ≡ c → slice_get nodes a.0 ≡ Some (Resize x w) →
      HasWidth nodes x u → IsWord k → IsAgainst a k (if b then form.Plain else if c then form.Against x (word u k.bits) else form.Never)
  resize_is a x k u w true c d g e h r = tt
  resize_is a x k u w false true d g e h r =
      let l = width_fits nodes x u f.ordered h in
      (h, record { least = l.least; most = l.most; fits = is_below k.bits (2 ^ u) g }, ap (λ z. z == k.bits) (same_bits a x u w d e h))
  resize_is a x k u w false false d g e h r =
      ap (λ z. z == k.bits) (same_bits a x u w d e h) ∙ never_equal (v x.0).bits k.bits (2 ^ u) (few_digits x u h) g

  constants : (a : Id) (k c : Number) (b : Bool) → (c.bits == k.bits) ≡ b → slice_get nodes a.0 ≡ Some (Const c) →
      IsAgainst a k (if b then form.One else form.Never)
  constants a k c true d e = ap (λ (z : Number). z.bits == k.bits) (f.values a.0 (Const c) e) ∙ d
  constants a k c false d e = ap (λ (z : Number). z.bits == k.bits) (f.values a.0 (Const c) e) ∙ d

  node_is : (a : Id) (k : Number) (n : Option Node) → slice_get nodes a.0 ≡ n → HasWidth nodes a k.width → IsWord k → IsAgainst a k (undo_node nodes k n)
  node_is a k (Some (Const c)) e h r = constants a k c (c.bits == k.bits) refl e
  node_is a k (Some (Bin op x y)) e h r = bin_is op a x y k (known_in (slice_get nodes x.0)) (known_in (slice_get nodes y.0)) e h r refl refl
  node_is a k (Some (Not x)) e h r =
      undone a x k not_of not_of (not_words k r) (f.values a.0 (Not x) e) (not_wide nodes a.0 k.width x f.ordered e h)
  node_is a k (Some (Resize x w)) e h r =
      let u = width_at (widths_of nodes) x in
      resize_is a x k u w (nat_lt w u) (nat_lt k.bits (2 ^ u)) refl refl e (has_width nodes x (resize_stands nodes a.0 w x f.ordered e)) r
  node_is a k n e h r = tt

  may_case : (a : Id) (k : Number) (b : Bool) (g : Form) → may_be nodes a k ≡ b → Stands nodes a → IsAgainst a k g → IsAgainst a k (if b then g else form.Never)
  may_case a k true g e s h = h
  may_case a k false g e s h = never_is inputs v nodes f a k s e

  -- how the equality of a term with a constant goes on is what it is
  pub against_is : (a : Id) (k : Number) → HasWidth nodes a k.width → IsWord k → IsAgainst a k (against nodes a k)
  against_is a k h r =
      may_case a k (may_be nodes a k) (undo_node nodes k (slice_get nodes a.0)) refl (stands nodes a k.width h) (node_is a k (slice_get nodes a.0) refl h r)
