-- What a pick is worth.
use Rattle.std.proofs.Common.{◌≡◌, ◌==◌, ℕ, Bool, true, false, not, ◌&&◌, ◌||◌, if◌then◌else◌, Option, Some, None, List, slice_get, refl, sym, ap, ◌∙◌, subst}
use Rattle.std.proofs.lemmas.Bool.Decides.{Decides-eqb}
use Rattle.ygg_value.specs.Number.{Number}
use Rattle.ygg_value.specs.Words.{word, apply_to, not_of, bit_of}
use Rattle.ygg_value.specs.declared.operation.Op.TheVariants.{And, Or}
use Rattle.ygg_rules.specs.declared.rule.RuleKind.{RuleKind}
use Rattle.ygg_bank.proofs.Fitting.{constant_there}
use Rattle.ygg_bank.proofs.Made.{made_grows}
use Rattle.ygg_bank.proofs.Meaning.{fits_fewer}
use Rattle.ygg_bank.proofs.Widths.{wider, stands, width_is}
use Rattle.ygg_bank.specs.Making.{known_in, made}
use Rattle.ygg_bank.specs.Nodes.{width_at, widths_of, HasWidth}
use Rattle.ygg_bank.specs.Values.{Inputs, Values, Fits}
use Rattle.ygg_bank.specs.declared.node.Id.{Id}
use Rattle.ygg_bank.specs.declared.node.Node.{Node}
use Rattle.ygg_bank.specs.declared.node.Node.TheVariants.{Const, Bin, Not, Pick}
use Rattle.ygg_shape_words.proofs.Fit.{can_or, can_and, can_pick, choice_fits}
use Rattle.ygg_shape_words.proofs.Grows.{picked_grows}
use Rattle.ygg_shape_words.proofs.Terms.{TermIs, either, holds, made_is, term_digit, not_digit, or_digits, and_digits}
use Rattle.ygg_shape_words.specs.Picking.{choice_of, choice_at, ChoiceFits, picked, picked_as}
use Rattle.ygg_shape_words.specs.declared.picking.Choice.{Choice}
use Rattle.ygg_shape_words.specs.declared.picking.Choice.TheVariants as choice

-- picks of single digits as conjunctions and disjunctions
or_first : (c d : Bool) → word 1 (bit_of (c || d)) ≡ (if c then word 1 1 else word 1 (bit_of d))
or_first true d = refl
or_first false d = refl

and_other : (c d : Bool) → word 1 (bit_of (not c && d)) ≡ (if c then word 1 0 else word 1 (bit_of d))
and_other true d = refl
and_other false d = refl

or_other : (c d : Bool) → word 1 (bit_of (not c || d)) ≡ (if c then word 1 (bit_of d) else word 1 1)
or_other true d = refl
or_other false d = refl

and_first : (c d : Bool) → word 1 (bit_of (c && d)) ≡ (if c then word 1 (bit_of d) else word 1 0)
and_first true d = refl
and_first false d = refl

two_are : (c : Bool) (a b x y : Number) → a ≡ x → b ≡ y → (if c then x else y) ≡ (if c then a else b)
two_are c a b x y e f = ap (λ z. if c then z else y) (sym e) ∙ ap (λ z. if c then a else z) (sym f)

module _ (inputs : Inputs) (v : Values) where
  -- which constants the way to make a pick wants
  abbrev ChoiceIs : Id → Id → Choice → Type 0
  ChoiceIs a b choice.One = Unit {0}
  ChoiceIs a b choice.YesIsOne = v a.0 ≡ word 1 1
  ChoiceIs a b choice.YesIsZero = v a.0 ≡ word 1 0
  ChoiceIs a b choice.NoIsOne = v b.0 ≡ word 1 1
  ChoiceIs a b choice.NoIsZero = v b.0 ≡ word 1 0
  ChoiceIs a b choice.Plain = Unit {0}

  known_digit : (nodes : List Node) (a : Id) (k : Number) (c : Bool) → known_in (slice_get nodes a.0) ≡ Some k → (k.bits == 1) ≡ c →
      HasWidth nodes a 1 → Fits inputs v nodes → v a.0 ≡ word 1 (bit_of c)
  known_digit nodes a k c e f d h =
      let g = h.values a.0 (Const k) (constant_there nodes a k e) in
      term_digit inputs v nodes a h d ∙ ap (λ (z : Number). word 1 (bit_of (z.bits == 1))) g ∙ ap (λ z. word 1 (bit_of z)) f

  choice_case : (nodes : List Node) (a b : Id) (c d : Bool) (k l : Option Number) → known_in (slice_get nodes a.0) ≡ k → known_in (slice_get nodes b.0) ≡ l →
      ((d ≡ true) → HasWidth nodes a 1 × HasWidth nodes b 1) → Fits inputs v nodes → ChoiceIs a b (choice_of c d k l)
  choice_case nodes a b true d k l e f w h = tt
  choice_case nodes a b false false k l e f w h = tt
  choice_case nodes a b false true (Some k) l e f w h = digit_case (k.bits == 1) refl where
    digit_case : (c : Bool) → (k.bits == 1) ≡ c → ChoiceIs a b (if c then choice.YesIsOne else choice.YesIsZero)
    digit_case true g = known_digit nodes a k true e g (w refl).0 h
    digit_case false g = known_digit nodes a k false e g (w refl).0 h
  choice_case nodes a b false true None (Some k) e f w h = digit_case (k.bits == 1) refl where
    digit_case : (c : Bool) → (k.bits == 1) ≡ c → ChoiceIs a b (if c then choice.NoIsOne else choice.NoIsZero)
    digit_case true g = known_digit nodes b k true f g (w refl).1 h
    digit_case false g = known_digit nodes b k false f g (w refl).1 h
  choice_case nodes a b false true None None e f w h = tt

  picked_as_is : (kinds : List RuleKind) (w : ℕ) (t a b : Id) (c : Choice) (nodes : List Node) → HasWidth nodes t 1 → HasWidth nodes a w →
      HasWidth nodes b w → ChoiceFits nodes a b c →
      (Fits inputs v nodes → ChoiceIs a b c) → Fits inputs v nodes → Fits inputs v (picked_as kinds t a b c nodes).nodes →
      TermIs inputs v (picked_as kinds t a b c nodes).nodes w (if holds inputs v t then v a.0 else v b.0) (picked_as kinds t a b c nodes).value
  picked_as_is kinds w t a b choice.One nodes d p q k m f h =
      record { wide = p; is = subst (λ z. v a.0 ≡ (if holds inputs v t then v a.0 else v z)) k (either (holds inputs v t) (v a.0)) }
  picked_as_is kinds w t a b choice.YesIsOne nodes d p q k m f h =
      let one : w ≡ 1 = sym (width_is nodes a w p) ∙ k in
      let qb = subst (HasWidth nodes b) one q in
      let r = made_is inputs v kinds (Bin Or t b) nodes (can_or nodes t b 1 d qb) h in
      let c = holds inputs v t in let e = holds inputs v b in
      record {
        wide = r.wide ∙ ap (λ z. Some z) (width_is nodes t 1 d ∙ sym one);
        is = r.is ∙ ap (λ z. apply_to Or z (v b.0)) (term_digit inputs v nodes t f d) ∙ ap (apply_to Or (word 1 (bit_of c))) (term_digit inputs v nodes b f qb)
            ∙ or_digits c e ∙ or_first c e ∙ two_are c (v a.0) (v b.0) (word 1 1) (word 1 (bit_of e)) (m f) (term_digit inputs v nodes b f qb);
      }
  picked_as_is kinds w t a b choice.YesIsZero nodes d p q k m f h =
      let one : w ≡ 1 = sym (width_is nodes a w p) ∙ k in
      let qb = subst (HasWidth nodes b) one q in
      let o = made kinds (Not t) nodes in
      let g = made_grows kinds (Not t) nodes in
      let n = made_is inputs v kinds (Not t) nodes (stands nodes t 1 d)
      (fits_fewer inputs v o.nodes (made kinds (Bin And o.value b) o.nodes).nodes (made_grows kinds (Bin And o.value b) o.nodes) h) in
      let nw : HasWidth o.nodes o.value 1 = n.wide ∙ ap (λ z. Some z) (width_is nodes t 1 d) in
      let r = made_is inputs v kinds (Bin And o.value b) o.nodes (can_and o.nodes o.value b 1 nw (wider nodes o.nodes b 1 g qb)) h in
      let c = holds inputs v t in let e = holds inputs v b in
      record {
        wide = r.wide ∙ ap (λ z. Some z) (width_is o.nodes o.value 1 nw ∙ sym one);
        is = r.is ∙ ap (λ z. apply_to And z (v b.0)) (n.is ∙ ap not_of (term_digit inputs v nodes t f d) ∙ not_digit c)
            ∙ ap (apply_to And (word 1 (bit_of (not c)))) (term_digit inputs v nodes b f qb)
            ∙ and_digits (not c) e ∙ and_other c e ∙ two_are c (v a.0) (v b.0) (word 1 0) (word 1 (bit_of e)) (m f) (term_digit inputs v nodes b f qb);
      }
  picked_as_is kinds w t a b choice.NoIsOne nodes d p q k m f h =
      let one : w ≡ 1 = sym (width_is nodes a w p) ∙ k in
      let pa = subst (HasWidth nodes a) one p in
      let o = made kinds (Not t) nodes in
      let g = made_grows kinds (Not t) nodes in
      let n = made_is inputs v kinds (Not t) nodes (stands nodes t 1 d)
      (fits_fewer inputs v o.nodes (made kinds (Bin Or o.value a) o.nodes).nodes (made_grows kinds (Bin Or o.value a) o.nodes) h) in
      let nw : HasWidth o.nodes o.value 1 = n.wide ∙ ap (λ z. Some z) (width_is nodes t 1 d) in
      let r = made_is inputs v kinds (Bin Or o.value a) o.nodes (can_or o.nodes o.value a 1 nw (wider nodes o.nodes a 1 g pa)) h in
      let c = holds inputs v t in let e = holds inputs v a in
      record {
        wide = r.wide ∙ ap (λ z. Some z) (width_is o.nodes o.value 1 nw ∙ sym one);
        is = r.is ∙ ap (λ z. apply_to Or z (v a.0)) (n.is ∙ ap not_of (term_digit inputs v nodes t f d) ∙ not_digit c)
            ∙ ap (apply_to Or (word 1 (bit_of (not c)))) (term_digit inputs v nodes a f pa)
            ∙ or_digits (not c) e ∙ or_other c e ∙ two_are c (v a.0) (v b.0) (word 1 (bit_of e)) (word 1 1) (term_digit inputs v nodes a f pa) (m f);
      }
  picked_as_is kinds w t a b choice.NoIsZero nodes d p q k m f h =
      let one : w ≡ 1 = sym (width_is nodes a w p) ∙ k in
      let pa = subst (HasWidth nodes a) one p in
      let r = made_is inputs v kinds (Bin And t a) nodes (can_and nodes t a 1 d pa) h in
      let c = holds inputs v t in let e = holds inputs v a in
      record {
        wide = r.wide ∙ ap (λ z. Some z) (width_is nodes t 1 d ∙ sym one);
        is = r.is ∙ ap (λ z. apply_to And z (v a.0)) (term_digit inputs v nodes t f d)
            ∙ ap (apply_to And (word 1 (bit_of c))) (term_digit inputs v nodes a f pa)
            ∙ and_digits c e ∙ and_first c e ∙ two_are c (v a.0) (v b.0) (word 1 (bit_of e)) (word 1 0) (term_digit inputs v nodes a f pa) (m f);
      }
  picked_as_is kinds w t a b choice.Plain nodes d p q k m f h =
      let r = made_is inputs v kinds (Pick t a b) nodes (can_pick nodes t a b w d p q) h in
      record { wide = r.wide ∙ ap (λ z. Some z) (width_is nodes a w p); is = r.is }

  -- the pick is the first word where the test is 1, and else the second
  pub picked_is : (kinds : List RuleKind) (w : ℕ) (t a b : Id) (nodes : List Node) → HasWidth nodes t 1 → HasWidth nodes a w → HasWidth nodes b w →
      Fits inputs v (picked kinds t a b nodes).nodes → TermIs inputs v (picked kinds t a b nodes).nodes w (if holds inputs v t then v a.0 else v b.0)
      (picked kinds t a b nodes).value
  picked_is kinds w t a b nodes d p q h =
      let f = fits_fewer inputs v nodes (picked kinds t a b nodes).nodes (picked_grows kinds t a b nodes) h in
      picked_as_is kinds w t a b (choice_at nodes a b) nodes d p q (choice_fits nodes a b)
      (λ f. choice_case nodes a b (a.0 == b.0) (width_at (widths_of nodes) a == 1) (known_in (slice_get nodes a.0))
      (known_in (slice_get nodes b.0)) refl refl (digits nodes a b w p q) f) f h where
        digits : (nodes : List Node) (a b : Id) (w : ℕ) → HasWidth nodes a w → HasWidth nodes b w → ((width_at (widths_of nodes) a == 1) ≡ true) →
            HasWidth nodes a 1 × HasWidth nodes b 1
        digits nodes a b w p q e =
            let one : w ≡ 1 = sym (width_is nodes a w p) ∙ (Decides-eqb (width_at (widths_of nodes) a) 1).0 e in
            (subst (HasWidth nodes a) one p, subst (HasWidth nodes b) one q)
