-- What is made in the stead of a node is no input, and fits it.
use Rattle.std.proofs.Common.{◌≡◌, ◌<◌, ◌==◌, ◌&&◌, ◌||◌, ℕ, Bool, true, false, if◌then◌else◌, Option, Some, None, List, [], slice_get, refl}
use Rattle.std.proofs.Common.{sym, ap, ◌∙◌, subst, arith}
use Rattle.std.specs.Prelude.{nat_le}
use Rattle.std.proofs.lemmas.Bool.Decides.{Decides-eqb}
use Rattle.std.proofs.lemmas.Nat.{pow_pos}
use Rattle.ygg_value.specs.Number.{Number, IsWord}
use Rattle.ygg_value.specs.Words.{word, not_of, result_width, CanApply}
use Rattle.ygg_value.specs.declared.operation.Op.{Op}
use Rattle.ygg_value.specs.declared.operation.Op.TheVariants.{Sub, Mul, And, Or, Xor, Shl, Shr, Lt, Le, Gt, Ge, Imp}
use Rattle.ygg_shape_words.specs.ygg_rules.Views.{IsWidth}
use Rattle.ygg_shape_words.specs.ygg_bank_proofs_Widths.{has_width, width_is, stands, width_fits}
use Rattle.ygg_shape_words.specs.ygg_bank.Inputs.{NoInput}
use Rattle.ygg_shape_words.specs.ygg_bank.Making.{known_in}
use Rattle.ygg_shape_words.specs.ygg_bank.Nodes.{width_at, widths_of, HasWidth, Stands, CanBin, CanMake, InOrder}
use Rattle.ygg_shape_words.specs.ygg_bank.declared.node.Id.{Id}
use Rattle.ygg_shape_words.specs.ygg_bank.declared.node.Node.{Node}
use Rattle.ygg_shape_words.specs.ygg_bank.declared.node.Node.TheVariants.{Input, Const, Bin, Not, Resize, Pick}
use Rattle.ygg_shape_words.proofs.Children.{pick_children, resize_stands, not_wide}
use Rattle.ygg_shape_nodes.specs.Moving.{is_open, is_moved, split_if, resize_of, moved_bin}
use Rattle.ygg_shape_nodes.specs.Surely.{twice, twice_at, zero_first, ones_first, one_first, zero_second, ones_second, one_second, known_first, known_second}
use Rattle.ygg_shape_nodes.specs.Rules.{first_of, not_instead, instead_of, Replaces, InsteadFits}
use Rattle.ygg_shape_nodes.specs.declared.rules.Instead.{Instead}
use Rattle.ygg_shape_nodes.specs.declared.rules.Instead.TheVariants as instead

-- no input is made in the stead of a node
abbrev pub InsteadOwn : Instead → Type 0
InsteadOwn (instead.Other m) = NoInput m
InsteadOwn (instead.Split t m k) = NoInput m × NoInput k
InsteadOwn i = Unit {0}

first_own : (i j : Instead) → InsteadOwn i → InsteadOwn j → InsteadOwn (first_of i j)
first_own instead.Itself j p q = q
first_own (instead.Term a) j p q = p
first_own (instead.Constant k) j p q = p
first_own (instead.Other m) j p q = p
first_own (instead.Split t m k) j p q = p

if_own : (b : Bool) (i j : Instead) → InsteadOwn i → InsteadOwn j → InsteadOwn (if b then i else j)
if_own true i j p q = p
if_own false i j p q = q

split_own : (b : Bool) (t : Id) (m k : Node) → NoInput m → NoInput k → InsteadOwn (split_if b t m k)
split_own b t m k p q = if_own b (instead.Split t m k) instead.Itself (p, q) tt

not_own : (n : Option Node) → InsteadOwn (not_instead n)
not_own (Some (Not x)) = tt
not_own n = tt

resize_of_own : (nodes : List Node) (w : ℕ) (n : Option Node) → InsteadOwn (resize_of nodes w n)
resize_of_own nodes w (Some (Resize x u)) =
    if_own (nat_le w u || nat_le (width_at (widths_of nodes) x) u) (instead.Other (Resize x w)) instead.Itself tt tt
resize_of_own nodes w (Some (Pick t x y)) = split_own (is_open (slice_get nodes x.0) (slice_get nodes y.0)) t (Resize x w) (Resize y w) tt tt
resize_of_own nodes w n = tt

moved_own : (nodes : List Node) (op : Op) (a b : Id) (m n : Option Node) → InsteadOwn (moved_bin nodes op a b m n)
moved_own nodes op a b (Some (Pick t x y)) (Some (Const k)) =
    split_own (is_moved op && is_open (slice_get nodes x.0) (slice_get nodes y.0)) t (Bin op x b) (Bin op y b) tt tt
moved_own nodes op a b (Some (Const k)) (Some (Pick t x y)) =
    split_own (is_moved op && is_open (slice_get nodes x.0) (slice_get nodes y.0)) t (Bin op a x) (Bin op a y) tt tt
moved_own nodes op a b m n = tt

twice_own : (op : Op) (w : ℕ) (a : Id) → InsteadOwn (twice op w a)
twice_own And w a = tt
twice_own Or w a = tt
twice_own Sub w a = tt
twice_own Xor w a = tt
twice_own Le w a = tt
twice_own Ge w a = tt
twice_own Imp w a = tt
twice_own Lt w a = tt
twice_own Gt w a = tt
twice_own op w a = tt

zero_first_own : (op : Op) (a b : Id) → InsteadOwn (zero_first op a b)
zero_first_own Imp a b = tt
zero_first_own Le a b = tt
zero_first_own Gt a b = tt
zero_first_own Xor a b = tt
zero_first_own Mul a b = tt
zero_first_own Shl a b = tt
zero_first_own Shr a b = tt
zero_first_own op a b = tt

ones_first_own : (op : Op) (b : Id) → InsteadOwn (ones_first op b)
ones_first_own Imp b = tt
ones_first_own Ge b = tt
ones_first_own Lt b = tt
ones_first_own op b = tt

one_first_own : (op : Op) (b : Id) → InsteadOwn (one_first op b)
one_first_own Mul b = tt
one_first_own op b = tt

zero_second_own : (op : Op) (a b : Id) → InsteadOwn (zero_second op a b)
zero_second_own Imp a b = tt
zero_second_own Ge a b = tt
zero_second_own Lt a b = tt
zero_second_own Sub a b = tt
zero_second_own Xor a b = tt
zero_second_own Shl a b = tt
zero_second_own Shr a b = tt
zero_second_own Mul a b = tt
zero_second_own op a b = tt

ones_second_own : (op : Op) → InsteadOwn (ones_second op)
ones_second_own Imp = tt
ones_second_own Le = tt
ones_second_own Gt = tt
ones_second_own op = tt

one_second_own : (op : Op) (a : Id) → InsteadOwn (one_second op a)
one_second_own Mul a = tt
one_second_own op a = tt

known_first_own : (op : Op) (a b : Id) (k : Option Number) → InsteadOwn (known_first op a b k)
known_first_own op a b (Some k) =
    let last = if k.bits == 1 then one_first op b else instead.Itself in
    if_own (k.bits == 0) (zero_first op a b) (if (not_of k).bits == 0 then ones_first op b else last) (zero_first_own op a b)
    (if_own ((not_of k).bits == 0) (ones_first op b) last (ones_first_own op b)
    (if_own (k.bits == 1) (one_first op b) instead.Itself (one_first_own op b) tt))
known_first_own op a b None = tt

known_second_own : (op : Op) (a b : Id) (k : Option Number) → InsteadOwn (known_second op a b k)
known_second_own op a b (Some k) =
    let last = if k.bits == 1 then one_second op a else instead.Itself in
    if_own (k.bits == 0) (zero_second op a b) (if (not_of k).bits == 0 then ones_second op else last) (zero_second_own op a b)
    (if_own ((not_of k).bits == 0) (ones_second op) last (ones_second_own op)
    (if_own (k.bits == 1) (one_second op a) instead.Itself (one_second_own op a) tt))
known_second_own op a b None = tt

pub instead_own : (nodes : List Node) (n : Node) → InsteadOwn (instead_of nodes n)
instead_own nodes (Input number w) = tt
instead_own nodes (Const k) = tt
instead_own nodes (Bin op a b) =
    let first = known_first op a b (known_in (slice_get nodes a.0)) in
    let second = known_second op a b (known_in (slice_get nodes b.0)) in
    let moved = moved_bin nodes op a b (slice_get nodes a.0) (slice_get nodes b.0) in
    let w = width_at (widths_of nodes) a in
    first_own (twice_at (a.0 == b.0) op w a) (first_of first (first_of second moved))
    (if_own (a.0 == b.0) (twice op w a) instead.Itself (twice_own op w a) tt)
    (first_own first (first_of second moved) (known_first_own op a b (known_in (slice_get nodes a.0)))
    (first_own second moved (known_second_own op a b (known_in (slice_get nodes b.0)))
    (moved_own nodes op a b (slice_get nodes a.0) (slice_get nodes b.0))))
instead_own nodes (Not a) = not_own (slice_get nodes a.0)
instead_own nodes (Resize a w) =
    if_own (width_at (widths_of nodes) a == w) (instead.Term a) (resize_of nodes w (slice_get nodes a.0)) tt (resize_of_own nodes w (slice_get nodes a.0))
instead_own nodes (Pick t a b) = tt

digit_word : (c : ℕ) → c < 2 → IsWord (word 1 c)
digit_word c l = record { least = omega arith; most = omega arith; fits = l }

module _ (nodes : List Node) (o : InOrder [] nodes) where
  first_fits : (n : Node) (i j : Instead) → InsteadFits nodes n i → InsteadFits nodes n j → InsteadFits nodes n (first_of i j)
  first_fits n instead.Itself j p q = q
  first_fits n (instead.Term a) j p q = p
  first_fits n (instead.Constant k) j p q = p
  first_fits n (instead.Other m) j p q = p
  first_fits n (instead.Split t m k) j p q = p

  if_fits : (n : Node) (b : Bool) (i j : Instead) → InsteadFits nodes n i → InsteadFits nodes n j → InsteadFits nodes n (if b then i else j)
  if_fits n true i j p q = p
  if_fits n false i j p q = q

  split_fits : (n : Node) (b : Bool) (t : Id) (m k : Node) → HasWidth nodes t 1 → Replaces nodes n m → Replaces nodes n k →
      InsteadFits nodes n (split_if b t m k)
  split_fits n b t m k h p q = if_fits n b (instead.Split t m k) instead.Itself (h, p, q) tt

  resize_replaces : (a x : Id) (w : ℕ) → IsWidth w → Stands nodes x → Replaces nodes (Resize a w) (Resize x w)
  resize_replaces a x w l s = record { can = (s, l); own = tt; width = refl }

  resize_of_fits : (a : Id) (w : ℕ) (n : Option Node) → slice_get nodes a.0 ≡ n → Stands nodes a → IsWidth w →
      InsteadFits nodes (Resize a w) (resize_of nodes w n)
  resize_of_fits a w (Some (Resize x u)) e s l =
      if_fits (Resize a w) (nat_le w u || nat_le (width_at (widths_of nodes) x) u) (instead.Other (Resize x w)) instead.Itself
      (resize_replaces a x w l (resize_stands nodes a.0 u x o e)) tt
  resize_of_fits a w (Some (Pick t x y)) e s l =
      let d = width_at (widths_of nodes) a in
      let p = pick_children nodes a t x y d o e (has_width nodes a s) in
      split_fits (Resize a w) (is_open (slice_get nodes x.0) (slice_get nodes y.0)) t (Resize x w) (Resize y w) p.test
      (resize_replaces a x w l (stands nodes x d p.first)) (resize_replaces a y w l (stands nodes y d p.second))
  resize_of_fits a w n e s l = tt

  own_fits : (a : Id) (w : ℕ) (b : Bool) (i : Instead) → (width_at (widths_of nodes) a == w) ≡ b → Stands nodes a → InsteadFits nodes (Resize a w) i →
      InsteadFits nodes (Resize a w) (if b then instead.Term a else i)
  own_fits a w true i e s h = has_width nodes a s ∙ ap (λ z. Some z) ((Decides-eqb (width_at (widths_of nodes) a) w).0 e)
  own_fits a w false i e s h = h

  not_fits : (a : Id) (n : Option Node) → slice_get nodes a.0 ≡ n → Stands nodes a → InsteadFits nodes (Not a) (not_instead n)
  not_fits a (Some (Not x)) e s = not_wide nodes a.0 (width_at (widths_of nodes) a) x o e (has_width nodes a s)
  not_fits a n e s = tt

  first_replaces : (op : Op) (a b x : Id) → CanBin nodes op a b → HasWidth nodes x (width_at (widths_of nodes) a) → Replaces nodes (Bin op a b) (Bin op x b)
  first_replaces op a b x c h =
      let d = width_at (widths_of nodes) a in
      let same : width_at (widths_of nodes) x ≡ d = width_is nodes x d h in
      record {
        can = record {
          one = stands nodes x d h;
          two = c.two;
          widths = subst (λ w. CanApply op (word w 0) (word (width_at (widths_of nodes) b) 0)) (sym same) c.widths;
        };
        own = tt;
        width = ap (result_width op) same;
      }

  second_replaces : (op : Op) (a b x : Id) → CanBin nodes op a b → HasWidth nodes x (width_at (widths_of nodes) b) → Replaces nodes (Bin op a b) (Bin op a x)
  second_replaces op a b x c h =
      let d = width_at (widths_of nodes) b in
      let same : width_at (widths_of nodes) x ≡ d = width_is nodes x d h in
      record {
        can = record {
          one = c.one;
          two = stands nodes x d h;
          widths = subst (λ w. CanApply op (word (width_at (widths_of nodes) a) 0) (word w 0)) (sym same) c.widths;
        };
        own = tt;
        width = refl;
      }

  moved_fits : (op : Op) (a b : Id) (m n : Option Node) → slice_get nodes a.0 ≡ m → slice_get nodes b.0 ≡ n → CanBin nodes op a b →
      InsteadFits nodes (Bin op a b) (moved_bin nodes op a b m n)
  moved_fits op a b (Some (Pick t x y)) (Some (Const k)) e f c =
      let p = pick_children nodes a t x y (width_at (widths_of nodes) a) o e (has_width nodes a c.one) in
      split_fits (Bin op a b) (is_moved op && is_open (slice_get nodes x.0) (slice_get nodes y.0)) t (Bin op x b) (Bin op y b) p.test
      (first_replaces op a b x c p.first) (first_replaces op a b y c p.second)
  moved_fits op a b (Some (Const k)) (Some (Pick t x y)) e f c =
      let p = pick_children nodes b t x y (width_at (widths_of nodes) b) o f (has_width nodes b c.two) in
      split_fits (Bin op a b) (is_moved op && is_open (slice_get nodes x.0) (slice_get nodes y.0)) t (Bin op a x) (Bin op a y) p.test
      (second_replaces op a b x c p.first) (second_replaces op a b y c p.second)
  moved_fits op a b m n e f c = tt

  -- the second word of an operation, at the first one's width
  second_wide : (a b : Id) → Stands nodes b → width_at (widths_of nodes) a ≡ width_at (widths_of nodes) b → HasWidth nodes b (width_at (widths_of nodes) a)
  second_wide a b s e = has_width nodes b s ∙ ap (λ z. Some z) (sym e)

  digit_wide : (b : Id) → Stands nodes b → width_at (widths_of nodes) b ≡ 1 → HasWidth nodes b 1
  digit_wide b s e = has_width nodes b s ∙ ap (λ z. Some z) e

  zero_word : (a : Id) → Stands nodes a → IsWord (word (width_at (widths_of nodes) a) 0)
  zero_word a s =
      let w = width_at (widths_of nodes) a in
      let l = width_fits nodes a w o (has_width nodes a s) in record { least = l.least; most = l.most; fits = pow_pos w }

  twice_fits : (op : Op) (a b : Id) → CanBin nodes op a b → InsteadFits nodes (Bin op a b) (twice op (width_at (widths_of nodes) a) a)
  twice_fits And a b c = has_width nodes a c.one
  twice_fits Or a b c = has_width nodes a c.one
  twice_fits Sub a b c = (zero_word a c.one, refl)
  twice_fits Xor a b c = (zero_word a c.one, refl)
  twice_fits Le a b c = (digit_word 1 (omega arith), refl)
  twice_fits Ge a b c = (digit_word 1 (omega arith), refl)
  twice_fits Imp a b c = (digit_word 1 (omega arith), refl)
  twice_fits Lt a b c = (digit_word 0 (omega arith), refl)
  twice_fits Gt a b c = (digit_word 0 (omega arith), refl)
  twice_fits op a b c = tt

  zero_first_fits : (op : Op) (a b : Id) → CanBin nodes op a b → InsteadFits nodes (Bin op a b) (zero_first op a b)
  zero_first_fits Imp a b c = (digit_word 1 (omega arith), refl)
  zero_first_fits Le a b c = (digit_word 1 (omega arith), refl)
  zero_first_fits Gt a b c = (digit_word 0 (omega arith), refl)
  zero_first_fits Xor a b c = second_wide a b c.two c.widths
  zero_first_fits Mul a b c = has_width nodes a c.one
  zero_first_fits Shl a b c = has_width nodes a c.one
  zero_first_fits Shr a b c = has_width nodes a c.one
  zero_first_fits op a b c = tt

  ones_first_fits : (op : Op) (a b : Id) → CanBin nodes op a b → InsteadFits nodes (Bin op a b) (ones_first op b)
  ones_first_fits Imp a b c = digit_wide b c.two c.widths.1
  ones_first_fits Ge a b c = (digit_word 1 (omega arith), refl)
  ones_first_fits Lt a b c = (digit_word 0 (omega arith), refl)
  ones_first_fits op a b c = tt

  one_first_fits : (op : Op) (a b : Id) → CanBin nodes op a b → InsteadFits nodes (Bin op a b) (one_first op b)
  one_first_fits Mul a b c = second_wide a b c.two c.widths
  one_first_fits op a b c = tt

  zero_second_fits : (op : Op) (a b : Id) → CanBin nodes op a b → InsteadFits nodes (Bin op a b) (zero_second op a b)
  zero_second_fits Imp a b c = record { can = c.one; own = tt; width = c.widths.0 }
  zero_second_fits Ge a b c = (digit_word 1 (omega arith), refl)
  zero_second_fits Lt a b c = (digit_word 0 (omega arith), refl)
  zero_second_fits Sub a b c = has_width nodes a c.one
  zero_second_fits Xor a b c = has_width nodes a c.one
  zero_second_fits Shl a b c = has_width nodes a c.one
  zero_second_fits Shr a b c = has_width nodes a c.one
  zero_second_fits Mul a b c = second_wide a b c.two c.widths
  zero_second_fits op a b c = tt

  ones_second_fits : (op : Op) (a b : Id) → CanBin nodes op a b → InsteadFits nodes (Bin op a b) (ones_second op)
  ones_second_fits Imp a b c = (digit_word 1 (omega arith), refl)
  ones_second_fits Le a b c = (digit_word 1 (omega arith), refl)
  ones_second_fits Gt a b c = (digit_word 0 (omega arith), refl)
  ones_second_fits op a b c = tt

  one_second_fits : (op : Op) (a b : Id) → CanBin nodes op a b → InsteadFits nodes (Bin op a b) (one_second op a)
  one_second_fits Mul a b c = has_width nodes a c.one
  one_second_fits op a b c = tt

  known_first_fits : (op : Op) (a b : Id) (k : Option Number) → CanBin nodes op a b → InsteadFits nodes (Bin op a b) (known_first op a b k)
  known_first_fits op a b (Some k) c =
      let n = Bin op a b in
      let last = if k.bits == 1 then one_first op b else instead.Itself in
      if_fits n (k.bits == 0) (zero_first op a b) (if (not_of k).bits == 0 then ones_first op b else last) (zero_first_fits op a b c)
      (if_fits n ((not_of k).bits == 0) (ones_first op b) last (ones_first_fits op a b c)
      (if_fits n (k.bits == 1) (one_first op b) instead.Itself (one_first_fits op a b c) tt))
  known_first_fits op a b None c = tt

  known_second_fits : (op : Op) (a b : Id) (k : Option Number) → CanBin nodes op a b → InsteadFits nodes (Bin op a b) (known_second op a b k)
  known_second_fits op a b (Some k) c =
      let n = Bin op a b in
      let last = if k.bits == 1 then one_second op a else instead.Itself in
      if_fits n (k.bits == 0) (zero_second op a b) (if (not_of k).bits == 0 then ones_second op else last) (zero_second_fits op a b c)
      (if_fits n ((not_of k).bits == 0) (ones_second op) last (ones_second_fits op a b c)
      (if_fits n (k.bits == 1) (one_second op a) instead.Itself (one_second_fits op a b c) tt))
  known_second_fits op a b None c = tt

  -- what is made in the stead of a node may be made
  pub instead_fits : (n : Node) → CanMake nodes n → InsteadFits nodes n (instead_of nodes n)
  instead_fits (Input number w) c = tt
  instead_fits (Const k) c = tt
  instead_fits (Bin op a b) c =
      let n = Bin op a b in
      let first = known_first op a b (known_in (slice_get nodes a.0)) in
      let second = known_second op a b (known_in (slice_get nodes b.0)) in
      let moved = moved_bin nodes op a b (slice_get nodes a.0) (slice_get nodes b.0) in
      let w = width_at (widths_of nodes) a in
      first_fits n (twice_at (a.0 == b.0) op w a) (first_of first (first_of second moved))
      (if_fits n (a.0 == b.0) (twice op w a) instead.Itself (twice_fits op a b c) tt)
      (first_fits n first (first_of second moved) (known_first_fits op a b (known_in (slice_get nodes a.0)) c)
      (first_fits n second moved (known_second_fits op a b (known_in (slice_get nodes b.0)) c)
      (moved_fits op a b (slice_get nodes a.0) (slice_get nodes b.0) refl refl c)))
  instead_fits (Not a) c = not_fits a (slice_get nodes a.0) refl c
  instead_fits (Resize a w) c =
      own_fits a w (width_at (widths_of nodes) a == w) (resize_of nodes w (slice_get nodes a.0)) refl c.0
      (resize_of_fits a w (slice_get nodes a.0) refl c.0 c.1)
  instead_fits (Pick t a b) c = tt
