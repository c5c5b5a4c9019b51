-- What is made in the stead of a node is worth the same.
use Rattle.std.proofs.Common.{◌≡◌, ◌≤◌, ◌<◌, ◌==◌, ◌&&◌, ◌||◌, ◌-◌, ◌^◌, ℕ, Bool, true, false, if◌then◌else◌, Option, Some, None, List, slice_get, refl}
use Rattle.std.proofs.Common.{sym, ap, ◌∙◌, arith}
use Rattle.std.specs.Prelude.{nat_le}
use Rattle.std.proofs.lemmas.Bool.Decides.{nat_tests, Decides-eqb}
use Rattle.ygg_value.proofs.Results.{resized-through, resized-wider, resized-own}
use Rattle.ygg_value.specs.Number.{Number, IsWord}
use Rattle.ygg_value.specs.Words.{word, apply_to, not_of, resized}
use Rattle.ygg_value.specs.declared.operation.Op.{Op}
use Rattle.ygg_value.specs.declared.operation.Op.TheVariants.{Sub, Mul, And, Or, Xor, Shl, Shr, Lt, Le, Gt, Ge, Imp}
use Rattle.ygg_shape_words.specs.ygg_bank_proofs_Fitting.{constant_there}
use Rattle.ygg_shape_words.specs.ygg_bank_proofs_Widths.{has_width}
use Rattle.ygg_shape_words.specs.ygg_bank.Making.{known_in}
use Rattle.ygg_shape_words.specs.ygg_bank.Nodes.{width_at, widths_of, Stands, CanBin, CanMake}
use Rattle.ygg_shape_words.specs.ygg_bank.Values.{Inputs, Values, Fits, node_value}
use Rattle.ygg_shape_words.specs.ygg_bank.declared.node.Id.{Id}
use Rattle.ygg_shape_words.specs.ygg_bank.declared.node.Node.{Node}
use Rattle.ygg_shape_words.specs.ygg_bank.declared.node.Node.TheVariants.{Input, Const, Bin, Not, Resize, Pick}
use Rattle.ygg_shape_words.proofs.Children.{resize_stands}
use Rattle.ygg_shape_words.proofs.Terms.{holds}
use Rattle.ygg_shape_nodes.specs.Moving.{is_open, is_moved, split_if, resize_of, moved_bin}
use Rattle.ygg_shape_nodes.specs.Surely.{twice, twice_at, zero_first, ones_first, one_first, zero_second, ones_second, one_second, known_first, known_second}
use Rattle.ygg_shape_nodes.specs.Rules.{first_of, not_instead, instead_of}
use Rattle.ygg_shape_nodes.specs.declared.rules.Instead.{Instead}
use Rattle.ygg_shape_nodes.specs.declared.rules.Instead.TheVariants as instead
use Rattle.ygg_shape_nodes.proofs.Sure.{and_twice, or_twice, sub_twice, xor_twice, le_twice, lt_twice}
use Rattle.ygg_shape_nodes.proofs.Sure.{imp_twice, zero_imp, zero_le, zero_gt, zero_xor, zero_mul}
use Rattle.ygg_shape_nodes.proofs.Sure.{zero_shl, zero_shr, ones_imp, ones_ge, ones_lt, imp_zero, ge_zero, lt_zero, sub_zero, xor_zero, shl_zero, shr_zero}
use Rattle.ygg_shape_nodes.proofs.Sure.{mul_zero, imp_ones, le_ones, gt_ones, one_mul, mul_one}

-- what is done to a pick is done to its words
moved : {X : Type 0} (f : Number → X) (c : Bool) (x y : Number) → (if c then f x else f y) ≡ f (if c then x else y)
moved f true x y = refl
moved f false x y = refl

turned : (p b : ℕ) → b < p → b ≡ p - 1 - (p - 1 - b)
turned p b l = omega arith

-- the complement of the complement
turned_back : (x : Number) → IsWord x → x ≡ not_of (not_of x)
turned_back x h = ap (word x.width) (turned (2 ^ x.width) x.bits h.fits)

either_wide : (w u d : ℕ) (b c : Bool) → nat_le w u ≡ b → nat_le d u ≡ c → (x : Number) → IsWord x → x.width ≡ d → (b || c) ≡ true →
    resized (resized x u) w ≡ resized x w
either_wide w u d true c e g x h i t = let l : w ≤ u = grind (arith, nat_tests) in resized-through x u w l
either_wide w u d false true e g x h i t =
    let l : d ≤ u = grind (arith, nat_tests) in let k : x.width ≤ u = omega arith in resized-wider x u w h.fits k
either_wide w u d false false e g x h i t = absurd (cc)

module _ (inputs : Inputs) (v : Values) where
  -- what is made in the stead of a node has its value
  abbrev pub InsteadIs : Node → Instead → Type 0
  InsteadIs n instead.Itself = Unit {0}
  InsteadIs n (instead.Term a) = v a.0 ≡ node_value inputs v n
  InsteadIs n (instead.Constant k) = node_value inputs v n ≡ k
  InsteadIs n (instead.Other m) = node_value inputs v m ≡ node_value inputs v n
  InsteadIs n (instead.Split t m k) = (if holds inputs v t then node_value inputs v m else node_value inputs v k) ≡ node_value inputs v n

  first_is : (n : Node) (i j : Instead) → InsteadIs n i → InsteadIs n j → InsteadIs n (first_of i j)
  first_is n instead.Itself j p q = q
  first_is n (instead.Term a) j p q = p
  first_is n (instead.Constant k) j p q = p
  first_is n (instead.Other m) j p q = p
  first_is n (instead.Split t m k) j p q = p

  -- one of two, of which each counts under its side of a test alone
  if_is : (n : Node) (b : Bool) (i j : Instead) → (b ≡ true → InsteadIs n i) → InsteadIs n j → InsteadIs n (if b then i else j)
  if_is n true i j p q = p refl
  if_is n false i j p q = q

  split_is : (n : Node) (b : Bool) (t : Id) (m k : Node) →
      (if holds inputs v t then node_value inputs v m else node_value inputs v k) ≡ node_value inputs v n → InsteadIs n (split_if b t m k)
  split_is n b t m k e = if_is n b (instead.Split t m k) instead.Itself (λ l. e) tt

  -- of one term twice, of 0, 1 or all ones and a term
  twice_is : (op : Op) (a b : Id) (w : ℕ) → v b.0 ≡ v a.0 → (v a.0).width ≡ w → InsteadIs (Bin op a b) (twice op w a)
  twice_is And a b w e g = and_twice (v a.0) ∙ ap (apply_to And (v a.0)) (sym e)
  twice_is Or a b w e g = or_twice (v a.0) ∙ ap (apply_to Or (v a.0)) (sym e)
  twice_is Sub a b w e g = ap (apply_to Sub (v a.0)) e ∙ sub_twice (v a.0) ∙ ap (λ z. word z 0) g
  twice_is Xor a b w e g = ap (apply_to Xor (v a.0)) e ∙ xor_twice (v a.0) ∙ ap (λ z. word z 0) g
  twice_is Le a b w e g = ap (apply_to Le (v a.0)) e ∙ le_twice (v a.0)
  twice_is Ge a b w e g = ap (apply_to Ge (v a.0)) e ∙ le_twice (v a.0)
  twice_is Imp a b w e g = ap (apply_to Imp (v a.0)) e ∙ imp_twice (v a.0)
  twice_is Lt a b w e g = ap (apply_to Lt (v a.0)) e ∙ lt_twice (v a.0)
  twice_is Gt a b w e g = ap (apply_to Gt (v a.0)) e ∙ lt_twice (v a.0)
  twice_is op a b w e g = tt

  module _ (nodes : List Node) (f : Fits inputs v nodes) where
    wide : (a : Id) → Stands nodes a → (v a.0).width ≡ width_at (widths_of nodes) a
    wide a s = f.widths a.0 (width_at (widths_of nodes) a) (has_width nodes a s)

    alike : (a b : Id) → Stands nodes a → Stands nodes b → width_at (widths_of nodes) a ≡ width_at (widths_of nodes) b → (v a.0).width ≡ (v b.0).width
    alike a b s t e = wide a s ∙ e ∙ sym (wide b t)

    zero_first_is : (op : Op) (a b : Id) → CanBin nodes op a b → (v a.0).bits ≡ 0 → InsteadIs (Bin op a b) (zero_first op a b)
    zero_first_is Imp a b c e = zero_imp (v a.0) (v b.0) e
    zero_first_is Le a b c e = zero_le (v a.0) (v b.0) e
    zero_first_is Gt a b c e = zero_gt (v a.0) (v b.0) e
    zero_first_is Xor a b c e = zero_xor (v a.0) (v b.0) e (alike a b c.one c.two c.widths)
    zero_first_is Mul a b c e = zero_mul (v a.0) (v b.0) e
    zero_first_is Shl a b c e = zero_shl (v a.0) (v b.0) e
    zero_first_is Shr a b c e = zero_shr (v a.0) (v b.0) e
    zero_first_is op a b c e = tt

    ones_first_is : (op : Op) (a b : Id) → CanBin nodes op a b → (not_of (v a.0)).bits ≡ 0 → InsteadIs (Bin op a b) (ones_first op b)
    ones_first_is Imp a b c e =
        ones_imp (v a.0) (v b.0) (f.words a.0) (f.words b.0) (wide a c.one ∙ c.widths.0) (wide b c.two ∙ c.widths.1) e
    ones_first_is Ge a b c e = ones_ge (v a.0) (v b.0) (f.words a.0) (f.words b.0) (alike a b c.one c.two c.widths) e
    ones_first_is Lt a b c e = ones_lt (v a.0) (v b.0) (f.words a.0) (f.words b.0) (alike a b c.one c.two c.widths) e
    ones_first_is op a b c e = tt

    one_first_is : (op : Op) (a b : Id) → CanBin nodes op a b → (v a.0).bits ≡ 1 → InsteadIs (Bin op a b) (one_first op b)
    one_first_is Mul a b c e = one_mul (v a.0) (v b.0) (f.words b.0) (alike a b c.one c.two c.widths) e
    one_first_is op a b c e = tt

    zero_second_is : (op : Op) (a b : Id) → CanBin nodes op a b → (v b.0).bits ≡ 0 → InsteadIs (Bin op a b) (zero_second op a b)
    zero_second_is Imp a b c e = imp_zero (v a.0) (v b.0) (f.words a.0) (wide a c.one ∙ c.widths.0) e
    zero_second_is Ge a b c e = ge_zero (v a.0) (v b.0) e
    zero_second_is Lt a b c e = lt_zero (v a.0) (v b.0) e
    zero_second_is Sub a b c e = sub_zero (v a.0) (v b.0) (f.words a.0) e
    zero_second_is Xor a b c e = xor_zero (v a.0) (v b.0) e
    zero_second_is Shl a b c e = shl_zero (v a.0) (v b.0) (f.words a.0) e
    zero_second_is Shr a b c e = shr_zero (v a.0) (v b.0) (f.words a.0) e
    zero_second_is Mul a b c e = mul_zero (v a.0) (v b.0) (alike a b c.one c.two c.widths) e
    zero_second_is op a b c e = tt

    ones_second_is : (op : Op) (a b : Id) → CanBin nodes op a b → (not_of (v b.0)).bits ≡ 0 → InsteadIs (Bin op a b) (ones_second op)
    ones_second_is Imp a b c e = imp_ones (v a.0) (v b.0) (f.words b.0) (wide b c.two ∙ c.widths.1) e
    ones_second_is Le a b c e = le_ones (v a.0) (v b.0) (f.words a.0) (f.words b.0) (alike a b c.one c.two c.widths) e
    ones_second_is Gt a b c e = gt_ones (v a.0) (v b.0) (f.words a.0) (f.words b.0) (alike a b c.one c.two c.widths) e
    ones_second_is op a b c e = tt

    one_second_is : (op : Op) (a b : Id) → CanBin nodes op a b → (v b.0).bits ≡ 1 → InsteadIs (Bin op a b) (one_second op a)
    one_second_is Mul a b c e = mul_one (v a.0) (v b.0) (f.words a.0) e
    one_second_is op a b c e = tt

    known_is : (a : Id) (k : Number) → known_in (slice_get nodes a.0) ≡ Some k → v a.0 ≡ k
    known_is a k e = f.values a.0 (Const k) (constant_there nodes a k e)

    is_number : (a : Id) (k : Number) (n : ℕ) → v a.0 ≡ k → (k.bits == n) ≡ true → (v a.0).bits ≡ n
    is_number a k n e t = ap (λ (z : Number). z.bits) e ∙ (Decides-eqb k.bits n).0 t

    is_ones : (a : Id) (k : Number) → v a.0 ≡ k → ((not_of k).bits == 0) ≡ true → (not_of (v a.0)).bits ≡ 0
    is_ones a k e t = ap (λ (z : Number). (not_of z).bits) e ∙ (Decides-eqb (not_of k).bits 0).0 t

    known_first_is : (op : Op) (a b : Id) (k : Option Number) → CanBin nodes op a b → known_in (slice_get nodes a.0) ≡ k →
        InsteadIs (Bin op a b) (known_first op a b k)
    known_first_is op a b (Some k) c e =
        let n = Bin op a b in
        let is = known_is a k e in
        let last = if k.bits == 1 then one_first op b else instead.Itself in
        if_is n (k.bits == 0) (zero_first op a b) (if (not_of k).bits == 0 then ones_first op b else last) (λ t. zero_first_is op a b c (is_number a k 0 is t))
        (if_is n ((not_of k).bits == 0) (ones_first op b) last (λ t. ones_first_is op a b c (is_ones a k is t))
        (if_is n (k.bits == 1) (one_first op b) instead.Itself (λ t. one_first_is op a b c (is_number a k 1 is t)) tt))
    known_first_is op a b None c e = tt

    known_second_is : (op : Op) (a b : Id) (k : Option Number) → CanBin nodes op a b → known_in (slice_get nodes b.0) ≡ k →
        InsteadIs (Bin op a b) (known_second op a b k)
    known_second_is op a b (Some k) c e =
        let n = Bin op a b in
        let is = known_is b k e in
        let last = if k.bits == 1 then one_second op a else instead.Itself in
        if_is n (k.bits == 0) (zero_second op a b) (if (not_of k).bits == 0 then ones_second op else last) (λ t. zero_second_is op a b c (is_number b k 0 is t))
        (if_is n ((not_of k).bits == 0) (ones_second op) last (λ t. ones_second_is op a b c (is_ones b k is t))
        (if_is n (k.bits == 1) (one_second op a) instead.Itself (λ t. one_second_is op a b c (is_number b k 1 is t)) tt))
    known_second_is op a b None c e = tt

    not_is : (a : Id) (n : Option Node) → slice_get nodes a.0 ≡ n → InsteadIs (Not a) (not_instead n)
    not_is a (Some (Not x)) e = turned_back (v x.0) (f.words x.0) ∙ ap not_of (sym (f.values a.0 (Not x) e))
    not_is a n e = tt

    other_is : (a x : Id) (w u : ℕ) → slice_get nodes a.0 ≡ Some (Resize x u) → (nat_le w u || nat_le (width_at (widths_of nodes) x) u) ≡ true →
        InsteadIs (Resize a w) (instead.Other (Resize x w))
    other_is a x w u e t =
        let d = width_at (widths_of nodes) x in
        sym (either_wide w u d (nat_le w u) (nat_le d u) refl refl (v x.0) (f.words x.0) (wide x (resize_stands nodes a.0 u x f.ordered e)) t)
        ∙ ap (λ (z : Number). resized z w) (sym (f.values a.0 (Resize x u) e))

    resize_of_is : (a : Id) (w : ℕ) (n : Option Node) → slice_get nodes a.0 ≡ n → InsteadIs (Resize a w) (resize_of nodes w n)
    resize_of_is a w (Some (Resize x u)) e =
        if_is (Resize a w) (nat_le w u || nat_le (width_at (widths_of nodes) x) u) (instead.Other (Resize x w)) instead.Itself (other_is a x w u e) tt
    resize_of_is a w (Some (Pick t x y)) e =
        split_is (Resize a w) (is_open (slice_get nodes x.0) (slice_get nodes y.0)) t (Resize x w) (Resize y w)
        (moved (λ z. resized z w) (holds inputs v t) (v x.0) (v y.0) ∙ ap (λ (z : Number). resized z w) (sym (f.values a.0 (Pick t x y) e)))
    resize_of_is a w n e = tt

    own_is : (a : Id) (w : ℕ) → Stands nodes a → (width_at (widths_of nodes) a == w) ≡ true → InsteadIs (Resize a w) (instead.Term a)
    own_is a w s e =
        let own : resized (v a.0) (v a.0).width ≡ v a.0 = resized-own (v a.0) (f.words a.0) in
        sym own ∙ ap (resized (v a.0)) (wide a s ∙ (Decides-eqb (width_at (widths_of nodes) a) w).0 e)

    moved_is : (op : Op) (a b : Id) (m n : Option Node) → slice_get nodes a.0 ≡ m → slice_get nodes b.0 ≡ n →
        InsteadIs (Bin op a b) (moved_bin nodes op a b m n)
    moved_is op a b (Some (Pick t x y)) (Some (Const k)) e g =
        split_is (Bin op a b) (is_moved op && is_open (slice_get nodes x.0) (slice_get nodes y.0)) t (Bin op x b) (Bin op y b)
        (moved (λ z. apply_to op z (v b.0)) (holds inputs v t) (v x.0) (v y.0) ∙ ap (λ (z : Number). apply_to op z (v b.0)) (sym (f.values a.0 (Pick t x y) e)))
    moved_is op a b (Some (Const k)) (Some (Pick t x y)) e g =
        split_is (Bin op a b) (is_moved op && is_open (slice_get nodes x.0) (slice_get nodes y.0)) t (Bin op a x) (Bin op a y)
        (moved (apply_to op (v a.0)) (holds inputs v t) (v x.0) (v y.0) ∙ ap (apply_to op (v a.0)) (sym (f.values b.0 (Pick t x y) g)))
    moved_is op a b m n e g = tt

    same_term : (a b : Id) → (a.0 == b.0) ≡ true → v b.0 ≡ v a.0
    same_term a b e = ap v (sym ((Decides-eqb a.0 b.0).0 e))

    -- what is made in the stead of a node is worth the same
    pub instead_is : (n : Node) → CanMake nodes n → InsteadIs n (instead_of nodes n)
    instead_is (Input number w) c = tt
    instead_is (Const k) c = tt
    instead_is (Bin op a b) c =
        let n = Bin op a b in
        let first = known_first op a b (known_in (slice_get nodes a.0)) in
        let second = known_second op a b (known_in (slice_get nodes b.0)) in
        let moved = moved_bin nodes op a b (slice_get nodes a.0) (slice_get nodes b.0) in
        let w = width_at (widths_of nodes) a in
        first_is n (twice_at (a.0 == b.0) op w a) (first_of first (first_of second moved))
        (if_is n (a.0 == b.0) (twice op w a) instead.Itself (λ e. twice_is op a b w (same_term a b e) (wide a c.one)) tt)
        (first_is n first (first_of second moved) (known_first_is op a b (known_in (slice_get nodes a.0)) c refl)
        (first_is n second moved (known_second_is op a b (known_in (slice_get nodes b.0)) c refl)
        (moved_is op a b (slice_get nodes a.0) (slice_get nodes b.0) refl refl)))
    instead_is (Not a) c = not_is a (slice_get nodes a.0) refl
    instead_is (Resize a w) c =
        if_is (Resize a w) (width_at (widths_of nodes) a == w) (instead.Term a) (resize_of nodes w (slice_get nodes a.0)) (own_is a w c.0)
        (resize_of_is a w (slice_get nodes a.0) refl)
    instead_is (Pick t a b) c = tt
