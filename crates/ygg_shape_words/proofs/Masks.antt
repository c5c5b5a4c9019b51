-- A term has no other digits than those that it may have.
use Rattle.std.proofs.Common.{◌≡◌, ◌<◌, ◌==◌, ◌+◌, ◌-◌, ◌*◌, ◌/◌, ◌%◌, ◌^◌, ℕ, zero, suc, Bool, true, false, if◌then◌else◌, Option, Some, List, slice_get}
use Rattle.std.proofs.Common.{bit_and, refl, sym, ap, ◌∙◌, subst, arith}
use Rattle.std.specs.Prelude.{nat_lt}
use Rattle.std.specs.Int.Bits.{and_self, and_zero_l}
use Rattle.std.proofs.lemmas.Nat.{and_mod, and_shr, and_mask, pow_pos}
use Rattle.std.proofs.Math.Nat.{div-add-mod, mul-mod_left, mul-div_cancel, mod-eq_of_lt}
use Rattle.std.proofs.lemmas.Bool.Decides.{Decides-eqb}
use Rattle.ygg_value.specs.Number.{Number, IsWord}
use Rattle.ygg_value.specs.Words.{apply_to, apply_bits, resized}
use Rattle.ygg_value.specs.declared.operation.Op.{Op}
use Rattle.ygg_value.specs.declared.operation.Op.TheVariants.{Shl, Shr}
use Rattle.ygg_bank.proofs.Fitting.{constant_there}
use Rattle.ygg_bank.proofs.Widths.{has_width}
use Rattle.ygg_bank.specs.Making.{known_in}
use Rattle.ygg_bank.specs.Nodes.{width_at, widths_of, Stands}
use Rattle.ygg_bank.specs.Values.{Inputs, Values, Fits}
use Rattle.ygg_bank.specs.declared.node.Id.{Id}
use Rattle.ygg_bank.specs.declared.node.Node.{Node}
use Rattle.ygg_bank.specs.declared.node.Node.TheVariants.{Const, Bin, Resize}
use Rattle.ygg_shape_words.proofs.Children.{bin_stands, resize_stands}
use Rattle.ygg_shape_words.specs.Digits.{all_ones, may_bin, may_node, may_within, may_have, may_be, Covers}
use Rattle.ygg_shape_words.specs.declared.digits.TheConstants.{DIGIT_DEPTH}

-- digits moved up
and_times : (x m c : ℕ) → bit_and (x * 2 ^ c) (m * 2 ^ c) ≡ bit_and x m * 2 ^ c
and_times x m c =
    let p = 2 ^ c in
    let q = pow_pos c in
    let a = bit_and (x * p) (m * p) in
    let high : a / p ≡ bit_and x m = and_shr (x * p) (m * p) c ∙ ap (λ z. bit_and z (m * p / p)) (mul-div_cancel x q) ∙ ap (bit_and x) (mul-div_cancel m q) in
    let low : a % p ≡ 0 =
    and_mod (x * p) (m * p) c ∙ ap (λ z. bit_and z (m * p % p)) (mul-mod_left x p) ∙ and_zero_l (m * p % p) in
    sym (div-add-mod a p) ∙ ap (λ z. p * z + a % p) high ∙ ap (λ z. p * bit_and x m + z) low ∙ turned p (bit_and x m) where
      turned : (p n : ℕ) → p * n + 0 ≡ n * p
      turned p n = omega arith

same_mod : (x m w : ℕ) → bit_and x m ≡ x → bit_and (x % 2 ^ w) (m % 2 ^ w) ≡ x % 2 ^ w
same_mod x m w e = sym (and_mod x m w) ∙ ap (λ z. z % 2 ^ w) e

shift_up : (b : Bool) (x m c w : ℕ) → bit_and x m ≡ x →
    bit_and (if b then (x * 2 ^ c) % 2 ^ w else 0) (if b then (m * 2 ^ c) % 2 ^ w else 0) ≡ (if b then (x * 2 ^ c) % 2 ^ w else 0)
shift_up true x m c w e = same_mod (x * 2 ^ c) (m * 2 ^ c) w (and_times x m c ∙ ap (λ z. z * 2 ^ c) e)
shift_up false x m c w e = and_zero_l 0

shift_down : (b : Bool) (x m c : ℕ) → bit_and x m ≡ x → bit_and (if b then x / 2 ^ c else 0) (if b then m / 2 ^ c else 0) ≡ (if b then x / 2 ^ c else 0)
shift_down true x m c e = sym (and_shr x m c) ∙ ap (λ z. z / 2 ^ c) e
shift_down false x m c e = and_zero_l 0

less_none : (p : ℕ) → p - 1 - 0 ≡ p - 1
less_none p = omega arith

-- all digits
all_cover : (w : ℕ) (x : Number) → IsWord x → x.width ≡ w → Covers (all_ones w) x
all_cover w x h e =
    let l : x.bits < 2 ^ w = subst (λ z. x.bits < 2 ^ z) e h.fits in
    record { width = sym e; digits = ap (bit_and x.bits) (less_none (2 ^ w)) ∙ and_mask x.bits w ∙ mod-eq_of_lt l }

module _ (inputs : Inputs) (v : Values) (nodes : List Node) (f : Fits inputs v nodes) where
  term_wide : (a : Id) → Stands nodes a → (v a.0).width ≡ width_at (widths_of nodes) a
  term_wide a s = f.widths a.0 (width_at (widths_of nodes) a) (has_width nodes a s)

  bin_cover : (op : Op) (m : Number) (a x y : Id) (c : Option Number) → slice_get nodes a.0 ≡ Some (Bin op x y) → known_in (slice_get nodes y.0) ≡ c →
      Stands nodes a → Covers m (v x.0) → Covers (may_bin op m c (width_at (widths_of nodes) a)) (v a.0)
  bin_cover Shl m a x y (Some c) e k s h =
      let is : v y.0 ≡ c = f.values y.0 (Const c) (constant_there nodes y c k) in
      let own : v a.0 ≡ apply_to Shl (v x.0) c = f.values a.0 (Bin Shl x y) e ∙ ap (apply_to Shl (v x.0)) is in
      subst (Covers (apply_to Shl m c)) (sym own) (record {
        width = h.width;
        digits =
            ap (λ w. bit_and (apply_bits Shl (v x.0).width (v x.0).bits c.bits) (apply_bits Shl w m.bits c.bits)) h.width
            ∙ shift_up (nat_lt c.bits (v x.0).width) (v x.0).bits m.bits c.bits (v x.0).width h.digits;
      })
  bin_cover Shr m a x y (Some c) e k s h =
      let is : v y.0 ≡ c = f.values y.0 (Const c) (constant_there nodes y c k) in
      let own : v a.0 ≡ apply_to Shr (v x.0) c = f.values a.0 (Bin Shr x y) e ∙ ap (apply_to Shr (v x.0)) is in
      subst (Covers (apply_to Shr m c)) (sym own) (record {
        width = h.width;
        digits =
            ap (λ w. bit_and (apply_bits Shr (v x.0).width (v x.0).bits c.bits) (apply_bits Shr w m.bits c.bits)) h.width
            ∙ shift_down (nat_lt c.bits (v x.0).width) (v x.0).bits m.bits c.bits h.digits;
      })
  bin_cover op m a x y c e k s h = all_cover (width_at (widths_of nodes) a) (v a.0) (f.words a.0) (term_wide a s)

  node_cover : (next : Id → Number) (a : Id) (n : Option Node) → ((x : Id) → Stands nodes x → Covers (next x) (v x.0)) → slice_get nodes a.0 ≡ n →
      Stands nodes a → Covers (may_node next nodes (width_at (widths_of nodes) a) n) (v a.0)
  node_cover next a (Some (Const k)) h e s = subst (Covers k) (sym (f.values a.0 (Const k) e)) (record { width = refl; digits = and_self k.bits })
  node_cover next a (Some (Resize x u)) h e s =
      let r = h x (resize_stands nodes a.0 u x f.ordered e) in
      subst (Covers (resized (next x) u)) (sym (f.values a.0 (Resize x u) e))
      (record { width = refl; digits = same_mod (v x.0).bits (next x).bits u r.digits })
  node_cover next a (Some (Bin op x y)) h e s =
      bin_cover op (next x) a x y (known_in (slice_get nodes y.0)) e refl s (h x (bin_stands nodes a.0 op x y f.ordered e).0)
  node_cover next a n h e s = all_cover (width_at (widths_of nodes) a) (v a.0) (f.words a.0) (term_wide a s)

  -- a term has no other digits than those that it may have
  pub may_cover : (depth : ℕ) (a : Id) → Stands nodes a → Covers (may_within depth nodes a) (v a.0)
  unfolding may_within
  may_cover zero a s = all_cover (width_at (widths_of nodes) a) (v a.0) (f.words a.0) (term_wide a s)
  may_cover (suc depth) a s = node_cover (may_within depth nodes) a (slice_get nodes a.0) (may_cover depth) refl s

  refuted : (x k : ℕ) (t : Bool) → (x == k) ≡ t → (x ≡ k → ⊥) → t ≡ false
  refuted x k true e h = absurd (h ((Decides-eqb x k).0 e))
  refuted x k false e h = refl

  -- a term is no constant that it may not be
  pub never_is : (a : Id) (k : Number) → Stands nodes a → may_be nodes a k ≡ false → ((v a.0).bits == k.bits) ≡ false
  never_is a k s e =
      let m = may_have nodes a in
      let c = may_cover DIGIT_DEPTH a s in
      refuted (v a.0).bits k.bits ((v a.0).bits == k.bits) refl (λ g.
      let i : bit_and k.bits m.bits ≡ k.bits = ap (λ z. bit_and z m.bits) (sym g) ∙ c.digits ∙ g in
      differs (bit_and k.bits m.bits) k.bits i e) where
        differs : (p q : ℕ) → p ≡ q → (p == q) ≡ false → ⊥
        differs p q g e = let h = (Decides-eqb p q).1 g in absurd (cc)

-- what the code answers
pub within_zero : (depth : ℕ) (nodes : List Node) (a : Id) → depth ≡ 0 → all_ones (width_at (widths_of nodes) a) ≡ may_within depth nodes a
unfolding may_within
within_zero zero nodes a e = refl
within_zero (suc depth) nodes a e = absurd (omega arith)

pub within_node : (depth : ℕ) (nodes : List Node) (a : Id) (n : Node) → 0 < depth → slice_get nodes a.0 ≡ Some n →
    may_node (may_within (depth - 1) nodes) nodes (width_at (widths_of nodes) a) (Some n) ≡ may_within depth nodes a
unfolding may_within
within_node zero nodes a n l e = absurd (omega arith)
within_node (suc depth) nodes a n l e =
    let same : suc depth - 1 ≡ depth = omega arith in
    ap (λ z. may_node (may_within z nodes) nodes (width_at (widths_of nodes) a) (Some n)) same
    ∙ ap (may_node (may_within depth nodes) nodes (width_at (widths_of nodes) a)) (sym e)
