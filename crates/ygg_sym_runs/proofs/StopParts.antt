-- The terms of stops: inputs of one digit, whether one of two is set, and one of two by a test.
use Rattle.std.proofs.Common.{◌≡◌, ◌==◌, ◌||◌, Bool, true, false, if◌then◌else◌, List, Some, refl, sym, ap, ◌∙◌}
use Rattle.ygg_value.specs.Number.{Number}
use Rattle.ygg_value.specs.Words.{word, bit_of, apply_to}
use Rattle.ygg_value.specs.declared.operation.Op.TheVariants.{Or}
use Rattle.ygg_sym_runs.specs.ygg_rules.declared.rule.RuleKind.{RuleKind}
use Rattle.ygg_sym_runs.specs.ygg_bank_proofs_Made.{made_grows}
use Rattle.ygg_sym_runs.specs.ygg_bank_proofs_Meaning.{fits_fewer}
use Rattle.ygg_sym_runs.specs.ygg_bank_proofs_Widths.{width_is, stands}
use Rattle.ygg_sym_runs.specs.ygg_bank.Making.{made}
use Rattle.ygg_sym_runs.specs.ygg_bank.Nodes.{HasWidth, CanBin}
use Rattle.ygg_sym_runs.specs.ygg_bank.Values.{Inputs, Values}
use Rattle.ygg_sym_runs.specs.ygg_bank.declared.node.Id.{Id}
use Rattle.ygg_sym_runs.specs.ygg_bank.declared.node.Node.{Node}
use Rattle.ygg_sym_runs.specs.ygg_bank.declared.node.Node.TheVariants.{Bin}
use Rattle.ygg_sym_runs.specs.ygg_shape_words_proofs_Picks.{picked_is}
use Rattle.ygg_sym_runs.specs.ygg_shape_words_proofs_Terms.{made_is, digit_is}
use Rattle.ygg_sym_runs.specs.ygg_shape_words.Picking.{picked}
use Rattle.ygg_sym_runs.specs.ExpressionMeaning.{Gives}
use Rattle.ygg_sym_runs.specs.Meaning.{is_set}
use Rattle.ygg_sym_runs.proofs.StopMeaning.{IsTest}

or_test : (a b : Number) → a ≡ word 1 (bit_of (a.bits == 1)) → b ≡ word 1 (bit_of (b.bits == 1)) →
    ((apply_to Or a b).bits == 1) ≡ ((a.bits == 1) || (b.bits == 1))
or_test a b e f =
    ap (λ (k : Number). (apply_to Or k b).bits == 1) e ∙ ap (λ (k : Number). (apply_to Or (word 1 (bit_of (a.bits == 1))) k).bits == 1) f
    ∙ cases (a.bits == 1) (b.bits == 1)
  where
    cases : (x y : Bool) → ((apply_to Or (word 1 (bit_of x)) (word 1 (bit_of y))).bits == 1) ≡ (x || y)
    cases true true = refl
    cases true false = refl
    cases false true = refl
    cases false false = refl

test_if : (t : Bool) (a b : Number) → ((if t then a else b).bits == 1) ≡ (if t then a.bits == 1 else b.bits == 1)
test_if true a b = refl
test_if false a b = refl

-- the word of one digit that a truth value is
pub digit_set : (b : Bool) → ((word 1 (bit_of b)).bits == 1) ≡ b
digit_set true = refl
digit_set false = refl

module _ (inputs : Inputs) (v : Values) (kinds : List RuleKind) where
  pub either_is : (a b : Id) (nodes : List Node) → HasWidth nodes a 1 → HasWidth nodes b 1 →
      Gives inputs v (made kinds (Bin Or a b)) nodes (IsTest v (is_set v a || is_set v b))
  either_is a b nodes p q h =
      let o = made kinds (Bin Or a b) nodes in
      let f = fits_fewer inputs v nodes o.nodes (made_grows kinds (Bin Or a b) nodes) h in
      let can : CanBin nodes Or a b = record {
        one = stands nodes a 1 p;
        two = stands nodes b 1 q;
        widths = width_is nodes a 1 p ∙ sym (width_is nodes b 1 q);
      } in
      let m = made_is inputs v kinds (Bin Or a b) nodes can h in
      record {
        wide = m.wide ∙ ap (λ z. Some z) (width_is nodes a 1 p);
        is = ap (λ (k : Number). k.bits == 1) m.is
            ∙ or_test (v a.0) (v b.0) (digit_is (v a.0) (f.words a.0) (f.widths a.0 1 p)) (digit_is (v b.0) (f.words b.0) (f.widths b.0 1 q));
      }

  pub one_is : (t a b : Id) (nodes : List Node) → HasWidth nodes t 1 → HasWidth nodes a 1 → HasWidth nodes b 1 →
      Gives inputs v (picked kinds t a b) nodes (IsTest v (if is_set v t then is_set v a else is_set v b))
  one_is t a b nodes w p q h =
      let m = picked_is inputs v kinds 1 t a b nodes w p q h in
      record { wide = m.wide; is = ap (λ (k : Number). k.bits == 1) m.is ∙ test_if (is_set v t) (v a.0) (v b.0) }
