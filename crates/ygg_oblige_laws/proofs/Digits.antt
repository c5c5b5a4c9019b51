-- Tests of one digit: both of two, one implied by another, and what is known of such a term.
use Rattle.std.proofs.Common.{◌≡◌, ◌==◌, Bool, true, false, not, ◌&&◌, ◌||◌, List, Some, refl, ap, ◌∙◌}
use Rattle.ygg_value.specs.Number.{Number}
use Rattle.ygg_value.specs.Words.{word, apply_to, not_of, bit_of}
use Rattle.ygg_value.specs.declared.operation.Op.TheVariants.{And}
use Rattle.ygg_sym_laws.specs.ygg_rules.declared.rule.RuleKind.{RuleKind}
use Rattle.ygg_sym_laws.specs.ygg_bank_proofs_Made.{made_grows}
use Rattle.ygg_sym_laws.specs.ygg_bank_proofs_Meaning.{fits_fewer}
use Rattle.ygg_sym_laws.specs.ygg_bank_proofs_Widths.{width_is, stands, wider, extends_both}
use Rattle.ygg_sym_laws.specs.ygg_bank.Making.{made}
use Rattle.ygg_sym_laws.specs.ygg_bank.Nodes.{HasWidth, Extends}
use Rattle.ygg_sym_laws.specs.ygg_bank.Values.{Inputs, Values, Fits}
use Rattle.ygg_sym_laws.specs.ygg_bank.declared.node.Id.{Id}
use Rattle.ygg_sym_laws.specs.ygg_bank.declared.node.Node.{Node}
use Rattle.ygg_sym_laws.specs.ygg_bank.declared.node.Node.TheVariants.{Bin, Not}
use Rattle.ygg_sym_laws.specs.ygg_shape_words_proofs_Fit.{can_and}
use Rattle.ygg_sym_laws.specs.ygg_shape_words_proofs_Terms.{made_is, term_digit, and_digits, not_digit, bit_is}
use Rattle.ygg_sym_laws.specs.ygg_sym_runs.ExpressionMeaning.{Gives}
use Rattle.ygg_sym_laws.specs.ygg_sym_runs.Meaning.{is_set}
use Rattle.ygg_sym_laws.proofs.of_ygg_sym_runs.StopMeaning.{IsTest}
use Rattle.ygg_oblige_laws.specs.Implied.{implied_made}

never_broken : (c d : Bool) → not (c && not d) ≡ (not c || d)
never_broken true true = refl
never_broken true false = refl
never_broken false d = refl

pub implied_grows : (kinds : List RuleKind) (a b : Id) (nodes : List Node) → Extends nodes (implied_made kinds a b nodes).nodes
implied_grows kinds a b nodes =
    let n = made kinds (Not b) nodes in
    let c = made kinds (Bin And a n.value) n.nodes in
    let r = made kinds (Not c.value) c.nodes in
    extends_both nodes n.nodes r.nodes (made_grows kinds (Not b) nodes)
    (extends_both n.nodes c.nodes r.nodes (made_grows kinds (Bin And a n.value) n.nodes) (made_grows kinds (Not c.value) c.nodes))

module _ (inputs : Inputs) (v : Values) (kinds : List RuleKind) where
  -- both of two tests
  pub both_is : (a b : Id) (nodes : List Node) → HasWidth nodes a 1 → HasWidth nodes b 1 →
      Gives inputs v (made kinds (Bin And a b)) nodes (IsTest v (is_set v a && is_set v b))
  both_is a b nodes p q h =
      let f = fits_fewer inputs v nodes (made kinds (Bin And a b) nodes).nodes (made_grows kinds (Bin And a b) nodes) h in
      let m = made_is inputs v kinds (Bin And a b) nodes (can_and nodes a b 1 p q) h in
      let i : v (made kinds (Bin And a b) nodes).value.0 ≡ word 1 (bit_of (is_set v a && is_set v b)) =
      m.is ∙ ap (λ (x : Number). apply_to And x (v b.0)) (term_digit inputs v nodes a f p)
      ∙ ap (apply_to And (word 1 (bit_of (is_set v a)))) (term_digit inputs v nodes b f q) ∙ and_digits (is_set v a) (is_set v b) in
      record {
        wide = m.wide ∙ ap (λ z. Some z) (width_is nodes a 1 p);
        is = ap (λ (k : Number). k.bits == 1) i ∙ bit_is (is_set v a && is_set v b);
      }

  -- the complement of a test
  other_is : (a : Id) (nodes : List Node) → HasWidth nodes a 1 → Gives inputs v (made kinds (Not a)) nodes (IsTest v (not (is_set v a)))
  other_is a nodes p h =
      let f = fits_fewer inputs v nodes (made kinds (Not a) nodes).nodes (made_grows kinds (Not a) nodes) h in
      let m = made_is inputs v kinds (Not a) nodes (stands nodes a 1 p) h in
      let i : v (made kinds (Not a) nodes).value.0 ≡ word 1 (bit_of (not (is_set v a))) =
      m.is ∙ ap not_of (term_digit inputs v nodes a f p) ∙ not_digit (is_set v a) in
      record { wide = m.wide ∙ ap (λ z. Some z) (width_is nodes a 1 p); is = ap (λ (k : Number). k.bits == 1) i ∙ bit_is (not (is_set v a)) }

  -- a test that is implied by another
  pub implied_is : (a b : Id) (nodes : List Node) → HasWidth nodes a 1 → HasWidth nodes b 1 →
      Gives inputs v (implied_made kinds a b) nodes (IsTest v (not (is_set v a) || is_set v b))
  implied_is a b nodes p q h =
      let n = made kinds (Not b) nodes in
      let c = made kinds (Bin And a n.value) n.nodes in
      let hc = fits_fewer inputs v c.nodes (made kinds (Not c.value) c.nodes).nodes (made_grows kinds (Not c.value) c.nodes) h in
      let hn = fits_fewer inputs v n.nodes c.nodes (made_grows kinds (Bin And a n.value) n.nodes) hc in
      let one = other_is b nodes q hn in
      let two = both_is a n.value n.nodes (wider nodes n.nodes a 1 (made_grows kinds (Not b) nodes) p) one.wide hc in
      let three = other_is c.value c.nodes two.wide h in
      record {
        wide = three.wide;
        is = three.is ∙ ap not (two.is ∙ ap (λ x. is_set v a && x) one.is) ∙ never_broken (is_set v a) (is_set v b);
      }

-- a digit that isn't 1 is 0
pub unset_zero : (inputs : Inputs) (v : Values) (nodes : List Node) (t : Id) → Fits inputs v nodes → HasWidth nodes t 1 → is_set v t ≡ false → (v t.0).bits ≡ 0
unset_zero inputs v nodes t h d e =
    ap (λ (k : Number). k.bits) (term_digit inputs v nodes t h d) ∙ ap bit_of e

-- and one that is 0 isn't 1
pub zero_unset : (v : Values) (t : Id) → (v t.0).bits ≡ 0 → is_set v t ≡ false
zero_unset v t e = ap (λ k. k == 1) e

-- what isn't implied: the first is 1, and the second isn't
pub record Refuted (a b : Bool) : Type 0 where
  pub first : a ≡ true
  pub second : b ≡ false

pub refuted : (a b : Bool) → (not a || b) ≡ false → Refuted a b
refuted true false e = record { first = refl; second = refl }
refuted true true e = absurd (cc)
refuted false b e = absurd (cc)

pub refutes : (a b : Bool) → Refuted a b → (not a || b) ≡ false
refutes a b r = ap (λ x. not x || b) r.first ∙ r.second

pub both_true : (a b : Bool) → (a && b) ≡ true → (a ≡ true) × (b ≡ true)
both_true true b e = (refl, e)
both_true false b e = absurd (cc)

pub both_hold : (a b : Bool) → a ≡ true → b ≡ true → (a && b) ≡ true
both_hold a b p q = ap (λ x. x && b) p ∙ q
