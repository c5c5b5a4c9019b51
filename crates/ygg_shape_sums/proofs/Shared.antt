-- What sums in place of picks are worth.
use Rattle.std.proofs.Common.{◌≡◌, ◌<◌, ◌==◌, ◌+◌, ◌%◌, ◌^◌, ℕ, zero, suc, Bool, true, false, if◌then◌else◌, Option}
use Rattle.std.proofs.Common.{Some, None, List, [], slice_get, refl, sym, ap, ◌∙◌, subst, arith}
use Rattle.std.proofs.Math.Nat.{mod-eq_of_lt}
use Rattle.std.proofs.lemmas.Bool.Decides.{Decides-eqb}
use Rattle.std.proofs.lemmas.Nat.{pow_pos}
use Rattle.ygg_value.specs.Number.{Number}
use Rattle.ygg_value.specs.Words.{word}
use Rattle.ygg_value.specs.declared.operation.Op.TheVariants.{Add}
use Rattle.ygg_shape_words.specs.ygg_rules.Views.{IsWidth}
use Rattle.ygg_shape_words.specs.ygg_rules.declared.rule.RuleKind.{RuleKind}
use Rattle.ygg_shape_words.specs.ygg_bank_proofs_Made.{made_grows}
use Rattle.ygg_shape_words.specs.ygg_bank_proofs_Meaning.{fits_fewer}
use Rattle.ygg_shape_words.specs.ygg_bank_proofs_Widths.{wider, extends_both}
use Rattle.ygg_shape_words.specs.ygg_bank.Makes.{Make}
use Rattle.ygg_shape_words.specs.ygg_bank.Making.{made}
use Rattle.ygg_shape_words.specs.ygg_bank.Nodes.{HasWidth, InOrder, Extends}
use Rattle.ygg_shape_words.specs.ygg_bank.Values.{Inputs, Values, Fits}
use Rattle.ygg_shape_words.specs.ygg_bank.declared.node.Id.{Id}
use Rattle.ygg_shape_words.specs.ygg_bank.declared.node.Node.{Node}
use Rattle.ygg_shape_words.specs.ygg_bank.declared.node.Node.TheVariants.{Const, Bin, Pick}
use Rattle.ygg_shape_words.proofs.Children.{pick_children}
use Rattle.ygg_shape_words.proofs.Grows.{picked_grows}
use Rattle.ygg_shape_words.proofs.Picks.{picked_is}
use Rattle.ygg_shape_words.proofs.Terms.{holds, made_is, number_if}
use Rattle.ygg_shape_words.specs.Picking.{picked}
use Rattle.ygg_shape_sums.proofs.Fit.{operands}
use Rattle.ygg_shape_sums.proofs.Keeps.{shared_within_grows, shared_inside_grows, more_where_grows}
use Rattle.ygg_shape_sums.proofs.Modulo.{Like, like, like_back, like_both, like_add, like_own}
use Rattle.ygg_shape_sums.proofs.Sides.{Gives, add_is}
use Rattle.ygg_shape_sums.proofs.Worth.{bits, bin_bits}
use Rattle.ygg_shape_sums.specs.Sharing.{added_to, shared_pick, is_pick, shared_sum, sharing_of, either, more_where, shared_as, shared_within}
use Rattle.ygg_shape_sums.specs.Sharing.{inside_as, shared_inside}
use Rattle.ygg_shape_sums.specs.declared.sharing.TheConstants.{SHARE_LIMIT}
use Rattle.ygg_shape_sums.specs.declared.sharing.Sharing.{Sharing}
use Rattle.ygg_shape_sums.specs.declared.sharing.Sharing.TheVariants as sharing

module _ (nodes : List Node) (w : ℕ) where
  -- the terms of a sum are words of the width, and its test is a digit
  abbrev pub SharingFits : Sharing → Type 0
  SharingFits sharing.Apart = Unit {0}
  SharingFits (sharing.Beside s p) = HasWidth nodes s w × HasWidth nodes p w
  SharingFits (sharing.More t d s m) = HasWidth nodes t 1 × (HasWidth nodes s w × HasWidth nodes m w)
  SharingFits (sharing.Either t x y) = HasWidth nodes t 1 × (HasWidth nodes x w × HasWidth nodes y w)

  abbrev AddedFits : Option Id → Type 0
  AddedFits None = Unit {0}
  AddedFits (Some m) = HasWidth nodes m w

  added_case : (x y : Id) (b c : Bool) → HasWidth nodes x w → HasWidth nodes y w → AddedFits (if b then Some y else if c then Some x else None)
  added_case x y true c p q = q
  added_case x y false true p q = p
  added_case x y false false p q = tt

  added_fits : (s a : Id) (n : Option Node) → InOrder [] nodes → slice_get nodes a.0 ≡ n → HasWidth nodes a w → AddedFits (added_to s n)
  added_fits s a (Some (Bin Add x y)) o e h =
      let p = operands nodes a x y Add w o e h (λ x y d. d) (λ w. refl) in added_case x y (x.0 == s.0) (y.0 == s.0) p.0 p.1
  added_fits s a n o e h = tt

  shared_pick_fits : (t x y : Id) (m n : Option Id) → HasWidth nodes t 1 → HasWidth nodes x w → HasWidth nodes y w → AddedFits m → AddedFits n →
      SharingFits (shared_pick t x y m n)
  shared_pick_fits t x y (Some m) n d p q f g = (d, (q, f))
  shared_pick_fits t x y None (Some m) d p q f g = (d, (p, g))
  shared_pick_fits t x y None None d p q f g = (d, (p, q))

  shared_sum_fits : (x y : Id) (b c : Bool) → HasWidth nodes x w → HasWidth nodes y w → SharingFits (shared_sum x y b c)
  shared_sum_fits x y true true p q = (p, q)
  shared_sum_fits x y false true p q = (p, q)
  shared_sum_fits x y true false p q = (q, p)
  shared_sum_fits x y false false p q = tt

  pub sharing_fits : (a : Id) (n : Option Node) → InOrder [] nodes → slice_get nodes a.0 ≡ n → HasWidth nodes a w → SharingFits (sharing_of nodes n)
  sharing_fits a (Some (Bin Add x y)) o e h =
      let p = operands nodes a x y Add w o e h (λ x y d. d) (λ w. refl) in
      shared_sum_fits x y (is_pick (slice_get nodes x.0)) (is_pick (slice_get nodes y.0)) p.0 p.1
  sharing_fits a (Some (Pick t x y)) o e h =
      let c = pick_children nodes a t x y w o e h in
      let one = slice_get nodes x.0 in
      let two = slice_get nodes y.0 in
      shared_pick_fits t x y (added_to y one) (added_to x two) c.test c.first c.second (added_fits y x one o refl c.first) (added_fits x y two o refl c.second)
  sharing_fits a n o e h = tt

  pub either_fits : (d : Bool) (a b : Id) → HasWidth nodes a w → HasWidth nodes b w → HasWidth nodes (either d a b) w
  either_fits true a b p q = p
  either_fits false a b p q = q

-- a number where a test is the digit, and else 0
abbrev pub where_digit : Bool → Bool → ℕ → ℕ
where_digit h d k = if h then (if d then k else 0) else (if d then 0 else k)

right : (x : ℕ) → x ≡ x + 0
right x = omega arith

swap : (x y : ℕ) → x + y ≡ y + x
swap x y = omega arith

module _ (inputs : Inputs) (v : Values) (w : ℕ) (wide : IsWidth w) where
  abbrev number : Id → ℕ
  number = bits inputs v

  -- what a sum makes of a term that is worth x
  abbrev SharingIs : ℕ → Sharing → Type 0
  SharingIs x sharing.Apart = Unit {0}
  SharingIs x (sharing.Beside s p) = Like (2 ^ w) x (number s + number p)
  SharingIs x (sharing.More t d s m) = Like (2 ^ w) x (number s + where_digit (holds inputs v t) d (number m))
  SharingIs x (sharing.Either t p q) = x ≡ (if holds inputs v t then number p else number q)

  abbrev AddedIs : ℕ → Id → Option Id → Type 0
  AddedIs x s None = Unit {0}
  AddedIs x s (Some m) = Like (2 ^ w) x (number s + number m)

  module _ (nodes : List Node) (f : Fits inputs v nodes) where
    added_like : (a x y : Id) → slice_get nodes a.0 ≡ Some (Bin Add x y) → HasWidth nodes a w → Like (2 ^ w) (number a) (number x + number y)
    added_like a x y e h =
        let p = operands nodes a x y Add w f.ordered e h (λ x y d. d) (λ w. refl) in
        let r = number x + number y in
        like_both (2 ^ w) (number a) (r % 2 ^ w) r (like (2 ^ w) (number a) (r % 2 ^ w) (bin_bits inputs v w wide.most nodes f a x y Add e p.0))
        (like_own (2 ^ w) r)

    turned_like : (a x y : Id) → Like (2 ^ w) (number a) (number x + number y) → Like (2 ^ w) (number a) (number y + number x)
    turned_like a x y h = subst (Like (2 ^ w) (number a)) (swap (number x) (number y)) h

    same_number : (x s : Id) → (x.0 == s.0) ≡ true → number x ≡ number s
    same_number x s e = ap (λ z. (v z).bits) ((Decides-eqb x.0 s.0).0 e)

    added_is_case : (a s x y : Id) (b c : Bool) → (x.0 == s.0) ≡ b → (y.0 == s.0) ≡ c → Like (2 ^ w) (number a) (number x + number y) →
        AddedIs (number a) s (if b then Some y else if c then Some x else None)
    added_is_case a s x y true c e g h = subst (λ z. Like (2 ^ w) (number a) (z + number y)) (same_number x s e) h
    added_is_case a s x y false true e g h = subst (λ z. Like (2 ^ w) (number a) (z + number x)) (same_number y s g) (turned_like a x y h)
    added_is_case a s x y false false e g h = tt

    added_is : (s a : Id) (n : Option Node) → slice_get nodes a.0 ≡ n → HasWidth nodes a w → AddedIs (number a) s (added_to s n)
    added_is s a (Some (Bin Add x y)) e h = added_is_case a s x y (x.0 == s.0) (y.0 == s.0) refl refl (added_like a x y e h)
    added_is s a n e h = tt

    where_one : (c : Bool) (a x y m : ℕ) → a ≡ (if c then x else y) → Like (2 ^ w) x (y + m) → Like (2 ^ w) a (y + where_digit c true m)
    where_one true a x y m e h = subst (λ z. Like (2 ^ w) z (y + m)) (sym e) h
    where_one false a x y m e h = like (2 ^ w) a (y + 0) (e ∙ right y)

    where_zero : (c : Bool) (a x y m : ℕ) → a ≡ (if c then x else y) → Like (2 ^ w) y (x + m) → Like (2 ^ w) a (x + where_digit c false m)
    where_zero true a x y m e h = like (2 ^ w) a (x + 0) (e ∙ right x)
    where_zero false a x y m e h = subst (λ z. Like (2 ^ w) z (x + m)) (sym e) h

    shared_pick_is : (a t x y : Id) (m n : Option Id) → number a ≡ (if holds inputs v t then number x else number y) → AddedIs (number x) y m →
        AddedIs (number y) x n → SharingIs (number a) (shared_pick t x y m n)
    shared_pick_is a t x y (Some m) n e g h = where_one (holds inputs v t) (number a) (number x) (number y) (number m) e g
    shared_pick_is a t x y None (Some m) e g h = where_zero (holds inputs v t) (number a) (number x) (number y) (number m) e h
    shared_pick_is a t x y None None e g h = e

    shared_sum_is : (a x y : Id) (b c : Bool) → Like (2 ^ w) (number a) (number x + number y) → SharingIs (number a) (shared_sum x y b c)
    shared_sum_is a x y true true h = h
    shared_sum_is a x y false true h = h
    shared_sum_is a x y true false h = turned_like a x y h
    shared_sum_is a x y false false h = tt

    sharing_is : (a : Id) (n : Option Node) → slice_get nodes a.0 ≡ n → HasWidth nodes a w → SharingIs (number a) (sharing_of nodes n)
    sharing_is a (Some (Bin Add x y)) e h =
        shared_sum_is a x y (is_pick (slice_get nodes x.0)) (is_pick (slice_get nodes y.0)) (added_like a x y e h)
    sharing_is a (Some (Pick t x y)) e h =
        let c = pick_children nodes a t x y w f.ordered e h in
        let one = slice_get nodes x.0 in
        let two = slice_get nodes y.0 in
        shared_pick_is a t x y (added_to y one) (added_to x two)
        (ap (λ (z : Number). z.bits) (f.values a.0 (Pick t x y) e) ∙ number_if (holds inputs v t) (v x.0) (v y.0))
        (added_is y x one refl c.first) (added_is x y two refl c.second)
    sharing_is a n e h = tt

  module _ (kinds : List RuleKind) where
    abbrev IsGood : (Id → Make Id) → Type 0
    IsGood next = (a : Id) (nodes : List Node) → HasWidth nodes a w → Fits inputs v (next a nodes).nodes →
        Gives inputs v w wide kinds (next a nodes).nodes (number a) (next a nodes).value

    abbrev OnlyGrows : (Id → Make Id) → Type 0
    OnlyGrows next = (a : Id) (nodes : List Node) → Extends nodes (next a nodes).nodes

    picked_number : (d c : Bool) (m z : Id) (k : ℕ) → number z ≡ 0 → number m ≡ k →
        (if c then v (either d m z).0 else v (either d z m).0).bits ≡ where_digit c d k
    picked_number true true m z k e g = g
    picked_number true false m z k e g = e
    picked_number false true m z k e g = e
    picked_number false false m z k e g = g

    more_where_is : (t : Id) (d : Bool) (m s : Id) (nodes : List Node) → HasWidth nodes t 1 → HasWidth nodes m w → HasWidth nodes s w →
        Fits inputs v (more_where kinds w t d m s nodes).nodes →
        Gives inputs v w wide kinds (more_where kinds w t d m s nodes).nodes (number s + where_digit (holds inputs v t) d (number m))
        (more_where kinds w t d m s nodes).value
    more_where_is t d m s nodes p q r h =
        let o = made kinds (Const (word w 0)) nodes in
        let one = either d m o.value in
        let two = either d o.value m in
        let g = picked kinds t one two o.nodes in
        let l = made kinds (Bin Add s g.value) g.nodes in
        let og = made_grows kinds (Const (word w 0)) nodes in
        let gg = picked_grows kinds t one two o.nodes in
        let gh = fits_fewer inputs v g.nodes l.nodes (made_grows kinds (Bin Add s g.value) g.nodes) h in
        let oh = fits_fewer inputs v o.nodes g.nodes gg gh in
        let z = made_is inputs v kinds (Const (word w 0)) nodes (record { least = wide.least; most = wide.most; fits = pow_pos w }) oh in
        let mw = wider nodes o.nodes m w og q in
        let k = picked_is inputs v kinds w t one two o.nodes (wider nodes o.nodes t 1 og p) (either_fits o.nodes w d m o.value mw z.wide)
        (either_fits o.nodes w d o.value m z.wide mw) gh in
        let y = add_is inputs v w wide kinds s g.value g.nodes (wider o.nodes g.nodes s w gg (wider nodes o.nodes s w og r)) k.wide h in
        let x : number g.value ≡ where_digit (holds inputs v t) d (number m) =
        ap (λ (n : Number). n.bits) k.is ∙ picked_number d (holds inputs v t) m o.value (number m) (ap (λ (n : Number). n.bits) z.is) refl in
        record { has = y.has; is = subst (λ n. Like (2 ^ w) (number l.value) (number s + n)) x y.is }

    shared_as_is : (next : Id → Make Id) (a : Id) (r : Sharing) (nodes : List Node) → IsGood next → OnlyGrows next → HasWidth nodes a w →
        SharingFits nodes w r → SharingIs (number a) r → Fits inputs v (shared_as kinds w next a r nodes).nodes →
        Gives inputs v w wide kinds (shared_as kinds w next a r nodes).nodes (number a) (shared_as kinds w next a r nodes).value
    shared_as_is next a sharing.Apart nodes good grow p q e h = record { has = p; is = like (2 ^ w) (number a) (number a) refl }
    shared_as_is next a (sharing.Either t x y) nodes good grow p q e h = record { has = p; is = like (2 ^ w) (number a) (number a) refl }
    shared_as_is next a (sharing.Beside s p) nodes good grow k q e h =
        let o = next p nodes in
        let l = made kinds (Bin Add s o.value) o.nodes in
        let g = good p nodes q.1 (fits_fewer inputs v o.nodes l.nodes (made_grows kinds (Bin Add s o.value) o.nodes) h) in
        let y = add_is inputs v w wide kinds s o.value o.nodes (wider nodes o.nodes s w (grow p nodes) q.0) g.has h in
        let m = 2 ^ w in
        record {
          has = y.has;
          is = like_both m (number l.value) (number s + number o.value) (number a) y.is
              (like_both m (number s + number o.value) (number s + number p) (number a)
              (like_add m (number s) (number s) (number o.value) (number p) (like m (number s) (number s) refl) g.is)
              (like_back m (number a) (number s + number p) e));
        }
    shared_as_is next a (sharing.More t d s k) nodes good grow p q e h =
        let o = next s nodes in
        let l = more_where kinds w t d k o.value o.nodes in
        let og = grow s nodes in
        let u = q.1 in
        let g = good s nodes u.0 (fits_fewer inputs v o.nodes l.nodes (more_where_grows kinds w t d k o.value o.nodes) h) in
        let y = more_where_is t d k o.value o.nodes (wider nodes o.nodes t 1 og q.0) (wider nodes o.nodes k w og u.1) g.has h in
        let m = 2 ^ w in
        let x = where_digit (holds inputs v t) d (number k) in
        record {
          has = y.has;
          is = like_both m (number l.value) (number o.value + x) (number a) y.is
              (like_both m (number o.value + x) (number s + x) (number a) (like_add m (number o.value) (number s) x x g.is (like m x x refl))
              (like_back m (number a) (number s + x) e));
        }

    pub shared_within_is : (depth : ℕ) → IsGood (shared_within kinds w depth)
    unfolding shared_within
    shared_within_is zero a nodes p h = record { has = p; is = like (2 ^ w) (number a) (number a) refl }
    shared_within_is (suc depth) a nodes p h =
        let n = slice_get nodes a.0 in
        let step = shared_within kinds w depth in
        let f = fits_fewer inputs v nodes (shared_as kinds w step a (sharing_of nodes n) nodes).nodes (shared_within_grows kinds w (suc depth) a nodes) h in
        shared_as_is step a (sharing_of nodes n) nodes (shared_within_is depth) (shared_within_grows kinds w depth) p
        (sharing_fits nodes w a n f.ordered refl p) (sharing_is nodes f a n refl p) h

    either_like : (c : Bool) (a x y p q r : ℕ) → a ≡ (if c then x else y) → Like (2 ^ w) p x → Like (2 ^ w) q y → r ≡ (if c then p else q) → Like (2 ^ w) r a
    either_like true a x y p q r e g h k = like_both (2 ^ w) r x a (subst (λ z. Like (2 ^ w) z x) (sym k) g) (like (2 ^ w) x a (sym e))
    either_like false a x y p q r e g h k = like_both (2 ^ w) r y a (subst (λ z. Like (2 ^ w) z y) (sym k) h) (like (2 ^ w) y a (sym e))

    inside_as_is : (next : Id → Make Id) (a : Id) (r : Sharing) (nodes : List Node) → IsGood next → OnlyGrows next → HasWidth nodes a w →
        SharingFits nodes w r → SharingIs (number a) r → Fits inputs v (inside_as kinds w next a r nodes).nodes →
        Gives inputs v w wide kinds (inside_as kinds w next a r nodes).nodes (number a) (inside_as kinds w next a r nodes).value
    inside_as_is next a (sharing.Either t x y) nodes good grow k q e h =
        let o = next x nodes in
        let m = next y o.nodes in
        let l = picked kinds t o.value m.value m.nodes in
        let og = grow x nodes in
        let mg = grow y o.nodes in
        let u = q.1 in
        let mh = fits_fewer inputs v m.nodes l.nodes (picked_grows kinds t o.value m.value m.nodes) h in
        let one = good x nodes u.0 (fits_fewer inputs v o.nodes m.nodes mg mh) in
        let two = good y o.nodes (wider nodes o.nodes y w og u.1) mh in
        let z = picked_is inputs v kinds w t o.value m.value m.nodes (wider o.nodes m.nodes t 1 mg (wider nodes o.nodes t 1 og q.0))
        (wider o.nodes m.nodes o.value w mg one.has) two.has h in
        record {
          has = z.wide;
          is = either_like (holds inputs v t) (number a) (number x) (number y) (number o.value) (number m.value) (number l.value) e one.is two.is
              (ap (λ (n : Number). n.bits) z.is ∙ number_if (holds inputs v t) (v o.value.0) (v m.value.0));
        }
    inside_as_is next a sharing.Apart nodes good grow p q e h = shared_within_is SHARE_LIMIT a nodes p h
    inside_as_is next a (sharing.Beside s p) nodes good grow k q e h = shared_within_is SHARE_LIMIT a nodes k h
    inside_as_is next a (sharing.More t d s m) nodes good grow p q e h = shared_within_is SHARE_LIMIT a nodes p h

    pub shared_inside_is : (depth : ℕ) → IsGood (shared_inside kinds w depth)
    unfolding shared_inside
    shared_inside_is zero a nodes p h = shared_within_is SHARE_LIMIT a nodes p h
    shared_inside_is (suc depth) a nodes p h =
        let n = slice_get nodes a.0 in
        let step = shared_inside kinds w depth in
        let f = fits_fewer inputs v nodes (inside_as kinds w step a (sharing_of nodes n) nodes).nodes (shared_inside_grows kinds w (suc depth) a nodes) h in
        inside_as_is step a (sharing_of nodes n) nodes (shared_inside_is depth) (shared_inside_grows kinds w depth) p
        (sharing_fits nodes w a n f.ordered refl p) (sharing_is nodes f a n refl p) h

    -- it has the number that the term has
    pub shared_number : (depth : ℕ) (a : Id) (nodes : List Node) → HasWidth nodes a w → Fits inputs v (shared_inside kinds w depth a nodes).nodes →
        number (shared_inside kinds w depth a nodes).value ≡ number a
    shared_number depth a nodes p h =
        let o = shared_inside kinds w depth a nodes in
        let g = shared_inside_is depth a nodes p h in
        let e = g.is in
        sym (own o.value g.has) ∙ e.is ∙ own a (wider nodes o.nodes a w (shared_inside_grows kinds w depth a nodes) p) where
          own : (b : Id) → HasWidth (shared_inside kinds w depth a nodes).nodes b w → number b % 2 ^ w ≡ number b
          own b q = let r = h.words b.0 in let l : number b < 2 ^ w = subst (λ u. number b < 2 ^ u) (h.widths b.0 w q) r.fits in mod-eq_of_lt l
