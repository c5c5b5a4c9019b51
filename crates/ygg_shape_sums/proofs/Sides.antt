-- What the two sides of a sum are worth, and their equality.
use Rattle.std.proofs.Common.{◌≡◌, ◌<◌, ◌≤◌, ◌==◌, ◌+◌, ◌-◌, ◌*◌, ◌%◌, ◌^◌, ℕ, Bool, true}
use Rattle.std.proofs.Common.{false, if◌then◌else◌, Some, List, [], ◌∷◌, refl, sym, ap, ◌∙◌, subst, arith}
use Rattle.std.specs.Prelude.{nat_le}
use Rattle.std.proofs.Math.Nat.{add-mul, mul_comm, mod-eq_of_lt, mod-lt}
use Rattle.std.proofs.lemmas.Nat.{pow_pos}
use Rattle.std.proofs.lemmas.Bool.Decides.{Decides-eqb}
use Rattle.std.proofs.lemmas.List.Elements.{All-head, All-tail}
use Rattle.ygg_value.specs.Number.{Number}
use Rattle.ygg_value.specs.Words.{word, bit_of}
use Rattle.ygg_value.specs.declared.operation.Op.TheVariants.{Add, Mul}
use Rattle.ygg_shape_words.specs.ygg_rules.Views.{IsWidth}
use Rattle.ygg_shape_words.specs.ygg_rules.declared.rule.RuleKind.{RuleKind}
use Rattle.ygg_shape_words.specs.ygg_bank_proofs_Made.{made_grows}
use Rattle.ygg_shape_words.specs.ygg_bank_proofs_Meaning.{fits_fewer}
use Rattle.ygg_shape_words.specs.ygg_bank_proofs_Widths.{wider, stands, width_is, extends_both}
use Rattle.ygg_shape_words.specs.ygg_bank.Makes.{Make, pure, and_make}
use Rattle.ygg_shape_words.specs.ygg_bank.Making.{made}
use Rattle.ygg_shape_words.specs.ygg_bank.Nodes.{HasWidth, CanBin}
use Rattle.ygg_shape_words.specs.ygg_bank.Values.{Inputs, Values, Fits}
use Rattle.ygg_shape_words.specs.ygg_bank.declared.node.Id.{Id}
use Rattle.ygg_shape_words.specs.ygg_bank.declared.node.Node.{Node}
use Rattle.ygg_shape_words.specs.ygg_bank.declared.node.Node.TheVariants.{Const, Bin}
use Rattle.ygg_shape_words.proofs.Compares.{same_words_is}
use Rattle.ygg_shape_words.proofs.Fit.{alike}
use Rattle.ygg_shape_words.proofs.Grows.{same_words_grows}
use Rattle.ygg_shape_words.proofs.Terms.{TermIs, made_is}
use Rattle.ygg_shape_words.specs.Same.{same_words}
use Rattle.ygg_shape_sums.proofs.Fit.{parts_wider}
use Rattle.ygg_shape_sums.proofs.Keeps.{more_grows, all_more_grows, side_grows}
use Rattle.ygg_shape_sums.proofs.Modulo.{Like, like, like_back, like_both, like_add, like_many, like_own, like_sub, less_and, sides_equal}
use Rattle.ygg_shape_sums.proofs.Worth.{bits, amount, worth}
use Rattle.ygg_shape_sums.specs.Parts.{Sum, PartsFit}
use Rattle.ygg_shape_sums.specs.Sides.{opposite, share, more, all_more, side, vanishes}
use Rattle.ygg_shape_sums.specs.declared.parts.Summand.{Summand}
use Rattle.ygg_shape_sums.specs.declared.reading.TheConstants.{LESS_ONE}

-- a share has the width's digits
pub share_fits : (w : ℕ) (second : Bool) (k : ℕ) → share w second k < 2 ^ w
share_fits w second k =
    let n = k % 2 ^ w in
    share_case (nat_le n (opposite w n)) second n (opposite w n) (mod-lt k (pow_pos w)) (mod-lt (0 + 2 ^ w - n) (pow_pos w)) where
      share_case : (c second : Bool) (n m : ℕ) → n < 2 ^ w → m < 2 ^ w → (if c then (if second then 0 else n) else (if second then m else 0)) < 2 ^ w
      share_case true true n m h i = pow_pos w
      share_case true false n m h i = h
      share_case false true n m h i = i
      share_case false false n m h i = pow_pos w

-- what is there so many times, and its share of the second side, make its share of the first
share_is : (w k : ℕ) → w ≤ 64 → Like (2 ^ w) (k + share w true k) (share w false k)
share_is w k l = share_case (nat_le (k % 2 ^ w) (opposite w (k % 2 ^ w))) where
  right : (x : ℕ) → x + 0 ≡ x
  right x = omega arith

  regroup : (n m : ℕ) → n + (0 + m) ≡ m + n
  regroup n m = omega arith

  share_case : (c : Bool) → Like (2 ^ w) (k + (if c then (if true then 0 else k % 2 ^ w) else (if true then opposite w (k % 2 ^ w) else 0)))
      (if c then (if false then 0 else k % 2 ^ w) else (if false then opposite w (k % 2 ^ w) else 0))
  share_case true =
      let m = 2 ^ w in like_both m (k + 0) k (k % m) (like m (k + 0) k (right k)) (like_back m (k % m) k (like_own m k))
  share_case false =
      let m = 2 ^ w in
      let n = k % m in
      let d = opposite w n in
      like_both m (k + d) (n + (0 + LESS_ONE * n)) 0
      (like_add m k n d (0 + LESS_ONE * n) (like_back m n k (like_own m k)) (like_sub w 0 n l (mod-lt k (pow_pos w))))
      (like_both m (n + (0 + LESS_ONE * n)) (LESS_ONE * n + n) 0 (like m (n + (0 + LESS_ONE * n)) (LESS_ONE * n + n) (regroup n (LESS_ONE * n)))
      (less_and w n l))

pub can_add : (nodes : List Node) (a b : Id) (w : ℕ) → HasWidth nodes a w → HasWidth nodes b w → CanBin nodes Add a b
can_add nodes a b w p q = record { one = stands nodes a w p; two = stands nodes b w q; widths = width_is nodes a w p ∙ sym (width_is nodes b w q) }

pub can_mul : (nodes : List Node) (a b : Id) (w : ℕ) → HasWidth nodes a w → HasWidth nodes b w → CanBin nodes Mul a b
can_mul nodes a b w p q = record { one = stands nodes a w p; two = stands nodes b w q; widths = width_is nodes a w p ∙ sym (width_is nodes b w q) }

four : (a b c d : ℕ) → a + b + (c + d) ≡ a + c + (b + d)
four a b c d = omega arith

four_turned : (a b c d : ℕ) → a + b + (c + d) ≡ b + c + (a + d)
four_turned a b c d = omega arith

module _ (inputs : Inputs) (v : Values) (w : ℕ) (wide : IsWidth w) (kinds : List RuleKind) where
  -- a word of the width that is worth this
  pub record Gives (nodes : List Node) (x : ℕ) (a : Id) : Type 0 where
    pub has : HasWidth nodes a w
    pub is : Like (2 ^ w) (bits inputs v a) x

  constant_is : (n : ℕ) (nodes : List Node) → n < 2 ^ w → Fits inputs v (made kinds (Const (word w n)) nodes).nodes →
      Gives (made kinds (Const (word w n)) nodes).nodes n (made kinds (Const (word w n)) nodes).value
  constant_is n nodes l h =
      let m = made_is inputs v kinds (Const (word w n)) nodes (record { least = wide.least; most = wide.most; fits = l }) h in
      let a = (made kinds (Const (word w n)) nodes).value in
      record { has = m.wide; is = like (2 ^ w) (bits inputs v a) n (ap (λ (z : Number). z.bits) m.is) }

  pub add_is : (a b : Id) (nodes : List Node) → HasWidth nodes a w → HasWidth nodes b w → Fits inputs v (made kinds (Bin Add a b) nodes).nodes →
      Gives (made kinds (Bin Add a b) nodes).nodes (bits inputs v a + bits inputs v b) (made kinds (Bin Add a b) nodes).value
  add_is a b nodes p q h =
      let o = made kinds (Bin Add a b) nodes in
      let f = fits_fewer inputs v nodes o.nodes (made_grows kinds (Bin Add a b) nodes) h in
      let m = made_is inputs v kinds (Bin Add a b) nodes (can_add nodes a b w p q) h in
      let x = bits inputs v a + bits inputs v b in
      record {
        has = m.wide ∙ ap (λ z. Some z) (width_is nodes a w p);
        is =
            like_both (2 ^ w) (bits inputs v o.value) (x % 2 ^ w) x
            (like (2 ^ w) (bits inputs v o.value) (x % 2 ^ w) (ap (λ (z : Number). z.bits) m.is ∙ ap (λ u. x % 2 ^ u) (f.widths a.0 w p)))
            (like_own (2 ^ w) x);
      }

  pub mul_is : (a b : Id) (nodes : List Node) → HasWidth nodes a w → HasWidth nodes b w → Fits inputs v (made kinds (Bin Mul a b) nodes).nodes →
      Gives (made kinds (Bin Mul a b) nodes).nodes (bits inputs v a * bits inputs v b) (made kinds (Bin Mul a b) nodes).value
  mul_is a b nodes p q h =
      let o = made kinds (Bin Mul a b) nodes in
      let f = fits_fewer inputs v nodes o.nodes (made_grows kinds (Bin Mul a b) nodes) h in
      let m = made_is inputs v kinds (Bin Mul a b) nodes (can_mul nodes a b w p q) h in
      let x = bits inputs v a * bits inputs v b in
      record {
        has = m.wide ∙ ap (λ z. Some z) (width_is nodes a w p);
        is =
            like_both (2 ^ w) (bits inputs v o.value) (x % 2 ^ w) x
            (like (2 ^ w) (bits inputs v o.value) (x % 2 ^ w) (ap (λ (z : Number). z.bits) m.is ∙ ap (λ u. x % 2 ^ u) (f.widths a.0 w p)))
            (like_own (2 ^ w) x);
      }

  -- a word that is worth as much
  pub as_much : (nodes : List Node) (x y : ℕ) (a : Id) → Like (2 ^ w) x y → Gives nodes x a → Gives nodes y a
  as_much nodes x y a l g = record { has = g.has; is = like_both (2 ^ w) (bits inputs v a) x y g.is l }

  many_is : (n : ℕ) (x a : Id) (nodes : List Node) → n < 2 ^ w → HasWidth nodes x w → HasWidth nodes a w →
      (let o : Make Id = and_make (made kinds (Const (word w n))) (λ k. and_make (made kinds (Bin Mul x k)) (λ m. made kinds (Bin Add a m))) in
      Fits inputs v (o nodes).nodes → Gives (o nodes).nodes (bits inputs v a + n * bits inputs v x) (o nodes).value)
  many_is n x a nodes l p q h =
      let k = made kinds (Const (word w n)) nodes in
      let kg = made_grows kinds (Const (word w n)) nodes in
      let m = made kinds (Bin Mul x k.value) k.nodes in
      let mg = made_grows kinds (Bin Mul x k.value) k.nodes in
      let o = made kinds (Bin Add a m.value) m.nodes in
      let mh = fits_fewer inputs v m.nodes o.nodes (made_grows kinds (Bin Add a m.value) m.nodes) h in
      let kh = fits_fewer inputs v k.nodes m.nodes mg mh in
      let kc = constant_is n nodes l kh in
      let mc = mul_is x k.value k.nodes (wider nodes k.nodes x w kg p) kc.has mh in
      let oc = add_is a m.value m.nodes (wider nodes m.nodes a w (extends_both nodes k.nodes m.nodes kg mg) q) mc.has h in
      let bx = bits inputs v x in
      as_much o.nodes (bits inputs v a + bits inputs v m.value) (bits inputs v a + n * bx) o.value
      (like_add (2 ^ w) (bits inputs v a) (bits inputs v a) (bits inputs v m.value) (n * bx) (like (2 ^ w) (bits inputs v a) (bits inputs v a) refl)
      (like_both (2 ^ w) (bits inputs v m.value) (bx * bits inputs v k.value) (n * bx) mc.is
      (like_both (2 ^ w) (bx * bits inputs v k.value) (bits inputs v k.value * bx) (n * bx)
      (like (2 ^ w) (bx * bits inputs v k.value) (bits inputs v k.value * bx) (mul_comm bx (bits inputs v k.value)))
      (like_many (2 ^ w) bx (bits inputs v k.value) n kc.is)))) oc

  more_case : (n : ℕ) (x a : Id) (nodes : List Node) (c d : Bool) → (n == 0) ≡ c → (n == 1) ≡ d → n < 2 ^ w → HasWidth nodes x w → HasWidth nodes a w →
      (let many : Make Id = and_make (made kinds (Const (word w n))) (λ k. and_make (made kinds (Bin Mul x k)) (λ m. made kinds (Bin Add a m))) in
      let o : Make Id = if c then pure a else if d then made kinds (Bin Add a x) else many in
      Fits inputs v (o nodes).nodes → Gives (o nodes).nodes (bits inputs v a + n * bits inputs v x) (o nodes).value)
  more_case n x a nodes true d e g l p q h =
      let z : n ≡ 0 = (Decides-eqb n 0).0 e in
      record {
        has = q;
        is = like (2 ^ w) (bits inputs v a) (bits inputs v a + n * bits inputs v x) (none (bits inputs v a) (bits inputs v x)
            ∙ ap (λ z. bits inputs v a + z * bits inputs v x) (sym z));
      } where
        none : (a x : ℕ) → a ≡ a + 0 * x
        none a x = omega arith
  more_case n x a nodes false true e g l p q h =
      let z : n ≡ 1 = (Decides-eqb n 1).0 g in
      as_much (made kinds (Bin Add a x) nodes).nodes (bits inputs v a + bits inputs v x) (bits inputs v a + n * bits inputs v x)
      (made kinds (Bin Add a x) nodes).value (like (2 ^ w) (bits inputs v a + bits inputs v x) (bits inputs v a + n * bits inputs v x)
      (once (bits inputs v a) (bits inputs v x) ∙ ap (λ z. bits inputs v a + z * bits inputs v x) (sym z))) (add_is a x nodes q p h) where
        once : (a x : ℕ) → a + x ≡ a + 1 * x
        once a x = omega arith
  more_case n x a nodes false false e g l p q h = many_is n x a nodes l p q h

  -- what stands on a side
  abbrev on_side : Bool → List Summand → ℕ
  on_side second [] = 0
  on_side second (p ∷ ps) = share w second p.times * bits inputs v p.term + on_side second ps

  all_more_is : (second : Bool) (ps : List Summand) (a : Id) (nodes : List Node) → PartsFit nodes w ps → HasWidth nodes a w →
      Fits inputs v (all_more kinds w second ps a nodes).nodes →
      Gives (all_more kinds w second ps a nodes).nodes (bits inputs v a + on_side second ps) (all_more kinds w second ps a nodes).value
  all_more_is second [] a nodes f q h =
      record { has = q; is = like (2 ^ w) (bits inputs v a) (bits inputs v a + 0) (right (bits inputs v a)) } where
        right : (a : ℕ) → a ≡ a + 0
        right a = omega arith
  all_more_is second (p ∷ ps) a nodes f q h =
      let P = λ (p : Summand). HasWidth nodes p.term w in
      let n = share w second p.times in
      let o = more kinds w n p.term a nodes in
      let g = more_grows kinds w n p.term a nodes in
      let r = all_more kinds w second ps o.value o.nodes in
      let oh = fits_fewer inputs v o.nodes r.nodes (all_more_grows kinds w second ps o.value o.nodes) h in
      let one = more_case n p.term a nodes (n == 0) (n == 1) refl refl (share_fits w second p.times) (All-head P p ps f) q oh in
      let rest = all_more_is second ps o.value o.nodes (parts_wider nodes o.nodes w ps g (All-tail P p ps f)) one.has h in
      let x = n * bits inputs v p.term in
      as_much r.nodes (bits inputs v o.value + on_side second ps) (bits inputs v a + (x + on_side second ps)) r.value
      (like_both (2 ^ w) (bits inputs v o.value + on_side second ps) (bits inputs v a + x + on_side second ps) (bits inputs v a + (x + on_side second ps))
      (like_add (2 ^ w) (bits inputs v o.value) (bits inputs v a + x) (on_side second ps) (on_side second ps) one.is
      (like (2 ^ w) (on_side second ps) (on_side second ps) refl))
      (like (2 ^ w) (bits inputs v a + x + on_side second ps) (bits inputs v a + (x + on_side second ps))
      (regroup (bits inputs v a) x (on_side second ps)))) rest where
        regroup : (a b c : ℕ) → a + b + c ≡ a + (b + c)
        regroup a b c = omega arith

  abbrev whole_side : Bool → Sum → ℕ
  whole_side second s = on_side second s.parts + share w second s.number

  side_is : (second : Bool) (s : Sum) (nodes : List Node) → PartsFit nodes w s.parts → Fits inputs v (side kinds w second s nodes).nodes →
      Gives (side kinds w second s nodes).nodes (whole_side second s) (side kinds w second s nodes).value
  side_is second s nodes f h =
      let z = made kinds (Const (word w 0)) nodes in
      let zg = made_grows kinds (Const (word w 0)) nodes in
      let a = all_more kinds w second s.parts z.value z.nodes in
      let ag = all_more_grows kinds w second s.parts z.value z.nodes in
      let n = share w second s.number in
      let k = made kinds (Const (word w n)) a.nodes in
      let kg = made_grows kinds (Const (word w n)) a.nodes in
      let o = made kinds (Bin Add a.value k.value) k.nodes in
      let kh = fits_fewer inputs v k.nodes o.nodes (made_grows kinds (Bin Add a.value k.value) k.nodes) h in
      let ah = fits_fewer inputs v a.nodes k.nodes kg kh in
      let zh = fits_fewer inputs v z.nodes a.nodes ag ah in
      let zc = constant_is 0 nodes (pow_pos w) zh in
      let ac = all_more_is second s.parts z.value z.nodes (parts_wider nodes z.nodes w s.parts zg f) zc.has ah in
      let kc = constant_is n a.nodes (share_fits w second s.number) kh in
      let oc = add_is a.value k.value k.nodes (wider a.nodes k.nodes a.value w kg ac.has) kc.has h in
      let m = 2 ^ w in
      let t = on_side second s.parts in
      as_much o.nodes (bits inputs v a.value + bits inputs v k.value) (t + n) o.value
      (like_add m (bits inputs v a.value) t (bits inputs v k.value) n
      (like_both m (bits inputs v a.value) (bits inputs v z.value + t) t ac.is
      (like_both m (bits inputs v z.value + t) (0 + t) t (like_add m (bits inputs v z.value) 0 t t zc.is (like m t t refl)) (like m (0 + t) t (left t))))
      kc.is) oc where
        left : (a : ℕ) → 0 + a ≡ a
        left a = omega arith

  -- a sum and its second side make its first side
  parts_balance : (ps : List Summand) → Like (2 ^ w) (amount inputs v ps + on_side true ps) (on_side false ps)
  parts_balance [] = like (2 ^ w) (0 + 0) 0 refl
  parts_balance (p ∷ ps) =
      let m = 2 ^ w in
      let x = bits inputs v p.term in
      let t = share w true p.times in
      let u = share w false p.times in
      let a = amount inputs v ps in
      let b = on_side true ps in
      like_both m (p.times * x + a + (t * x + b)) ((p.times + t) * x + (a + b)) (u * x + on_side false ps)
      (like m (p.times * x + a + (t * x + b)) ((p.times + t) * x + (a + b))
      (four (p.times * x) a (t * x) b ∙ ap (λ z. z + (a + b)) (sym (add-mul p.times t x))))
      (like_add m ((p.times + t) * x) (u * x) (a + b) (on_side false ps) (like_many m x (p.times + t) u (share_is w p.times wide.most)) (parts_balance ps))

  balance : (s : Sum) → Like (2 ^ w) (worth inputs v s + whole_side true s) (whole_side false s)
  balance s =
      let m = 2 ^ w in
      let n = s.number in
      let a = amount inputs v s.parts in
      let b = on_side true s.parts in
      let t = share w true n in
      like_both m (n + a + (b + t)) (a + b + (n + t)) (whole_side false s) (like m (n + a + (b + t)) (a + b + (n + t)) (four_turned n a b t))
      (like_add m (a + b) (on_side false s.parts) (n + t) (share w false n) (parts_balance s.parts) (share_is w n wide.most))

  -- the number of a word that is worth this
  exactly : (nodes : List Node) (x : ℕ) (a : Id) → Fits inputs v nodes → Gives nodes x a → bits inputs v a ≡ x % 2 ^ w
  exactly nodes x a f g =
      let p = f.words a.0 in
      let l : bits inputs v a < 2 ^ w = subst (λ u. bits inputs v a < 2 ^ u) (f.widths a.0 w g.has) p.fits in
      let i = g.is in sym (mod-eq_of_lt l) ∙ i.is

  pub vanishes_is : (s : Sum) (nodes : List Node) → PartsFit nodes w s.parts → Fits inputs v (vanishes kinds w s nodes).nodes →
      TermIs inputs v (vanishes kinds w s nodes).nodes 1 (word 1 (bit_of (worth inputs v s % 2 ^ w == 0))) (vanishes kinds w s nodes).value
  vanishes_is s nodes f h =
      let one = side kinds w false s nodes in
      let og = side_grows kinds w false s nodes in
      let two = side kinds w true s one.nodes in
      let tg = side_grows kinds w true s one.nodes in
      let r = same_words kinds one.value two.value two.nodes in
      let th = fits_fewer inputs v two.nodes r.nodes (same_words_grows kinds one.value two.value two.nodes) h in
      let oh = fits_fewer inputs v one.nodes two.nodes tg th in
      let a = side_is false s nodes f oh in
      let b = side_is true s one.nodes (parts_wider nodes one.nodes w s.parts og f) th in
      let m = same_words_is inputs v kinds one.value two.value two.nodes
      (alike two.nodes one.value two.value w (wider one.nodes two.nodes one.value w tg a.has) b.has) h in
      record {
        wide = m.wide;
        is = m.is ∙ ap (λ z. word 1 (bit_of (z == bits inputs v two.value))) (exactly one.nodes (whole_side false s) one.value oh a)
            ∙ ap (λ z. word 1 (bit_of (whole_side false s % 2 ^ w == z))) (exactly two.nodes (whole_side true s) two.value th b)
            ∙ ap (λ z. word 1 (bit_of z)) (sides_equal w (worth inputs v s) (whole_side false s) (whole_side true s) wide.most (balance s));
      }
