-- Digits that are 1 just where something holds: constants, conjunctions and disjunctions; and steps that add no inputs.
use Rattle.std.proofs.Common.{◌≡◌, ◌&&◌, ◌||◌, ◌==◌, Bool, true, false, Some, List, ap, ◌∙◌, arith}
use Rattle.ygg_value.specs.Number.{Number, IsWord}
use Rattle.ygg_value.specs.Words.{word, apply_to, bit_of}
use Rattle.ygg_value.specs.declared.operation.Op.TheVariants.{And, Or}
use Rattle.ygg_sym_laws.specs.ygg_rules.declared.rule.RuleKind.{RuleKind}
use Rattle.ygg_sym_laws.specs.ygg_bank_proofs_Made.{made_grows}
use Rattle.ygg_sym_laws.specs.ygg_bank_proofs_Meaning.{fits_fewer}
use Rattle.ygg_sym_laws.specs.ygg_bank_proofs_Widths.{wider, width_is, extends_self}
use Rattle.ygg_sym_laws.specs.ygg_bank.Inputs.{InputsBelow}
use Rattle.ygg_sym_laws.specs.ygg_bank.Makes.{Make}
use Rattle.ygg_sym_laws.specs.ygg_bank.Making.{made}
use Rattle.ygg_sym_laws.specs.ygg_bank.Nodes.{Extends}
use Rattle.ygg_sym_laws.specs.ygg_bank.Values.{Inputs, Values, Fits}
use Rattle.ygg_sym_laws.specs.ygg_bank.declared.node.Id.{Id}
use Rattle.ygg_sym_laws.specs.ygg_bank.declared.node.Node.{Node}
use Rattle.ygg_sym_laws.specs.ygg_bank.declared.node.Node.TheVariants.{Const, Bin}
use Rattle.ygg_sym_laws.specs.ygg_shape_words_proofs_Fit.{can_and, can_or}
use Rattle.ygg_sym_laws.specs.ygg_shape_words_proofs_Keeps.{Stays, grows_stays, inputs_stay}
use Rattle.ygg_sym_laws.specs.ygg_shape_words_proofs_Terms.{TermIs, made_is, bit_is, term_digit, and_digits, or_digits}
use Rattle.ygg_sym_laws.specs.ygg_sym_runs.ExpressionMeaning.{Gives}
use Rattle.ygg_sym_laws.specs.ygg_sym_runs_proofs_Keeps.{Keeps}
use Rattle.ygg_oblige_laws.specs.States.{AddsNoInputs}
use Rattle.ygg_oblige_laws.specs.Worth.{IsTruth}

-- what keeps all that stays as nodes other than inputs are made adds no inputs
pub adds : {A : Type 0} (kinds : List RuleKind) (m : Make A) → ((P : List Node → Type 0) → Stays kinds P → Keeps P m) → AddsNoInputs m
adds kinds m k = record {
  grows = λ nodes. k (Extends nodes) (grows_stays kinds nodes) nodes (extends_self nodes);
  inputs = λ nodes next h. k (InputsBelow next) (inputs_stay kinds next) nodes h;
}

pub one_word : IsWord (word 1 1)
one_word = record { least = omega arith; most = omega arith; fits = omega arith }

pub none_word : IsWord (word 1 0)
none_word = record { least = omega arith; most = omega arith; fits = omega arith }

pub truth_wider : (v : Values) (old new : List Node) (c : Bool) (a : Id) → Extends old new → IsTruth v c old a → IsTruth v c new a
truth_wider v old new c a g t = record { wide = wider old new a 1 g t.wide; is = t.is }

module _ (inputs : Inputs) (v : Values) where
  -- a digit with a value
  pub truth_of : (nodes : List Node) (c : Bool) (a : Id) → TermIs inputs v nodes 1 (word 1 (bit_of c)) a → IsTruth v c nodes a
  truth_of nodes c a t = record { wide = t.wide; is = ap (λ (n : Number). n.bits == 1) t.is ∙ bit_is c }

  pub digit_of : (nodes : List Node) (c : Bool) (a : Id) → Fits inputs v nodes → IsTruth v c nodes a → v a.0 ≡ word 1 (bit_of c)
  digit_of nodes c a h t = term_digit inputs v nodes a h t.wide ∙ ap (λ z. word 1 (bit_of z)) t.is

  module _ (kinds : List RuleKind) where
    pub one_gives : (nodes : List Node) → Gives inputs v (made kinds (Const (word 1 1))) nodes (IsTruth v true)
    one_gives nodes h =
        let o = made kinds (Const (word 1 1)) nodes in truth_of o.nodes true o.value (made_is inputs v kinds (Const (word 1 1)) nodes one_word h)

    pub never_gives : (nodes : List Node) → Gives inputs v (made kinds (Const (word 1 0))) nodes (IsTruth v false)
    never_gives nodes h =
        let o = made kinds (Const (word 1 0)) nodes in truth_of o.nodes false o.value (made_is inputs v kinds (Const (word 1 0)) nodes none_word h)

    pub and_gives : (a b : Id) (c d : Bool) (nodes : List Node) → IsTruth v c nodes a → IsTruth v d nodes b →
        Gives inputs v (made kinds (Bin And a b)) nodes (IsTruth v (c && d))
    and_gives a b c d nodes p q h =
        let o = made kinds (Bin And a b) nodes in
        let hn = fits_fewer inputs v nodes o.nodes (made_grows kinds (Bin And a b) nodes) h in
        let m = made_is inputs v kinds (Bin And a b) nodes (can_and nodes a b 1 p.wide q.wide) h in
        truth_of o.nodes (c && d) o.value (record {
          wide = m.wide ∙ ap (λ z. Some z) (width_is nodes a 1 p.wide);
          is = m.is ∙ ap (λ z. apply_to And z (v b.0)) (digit_of nodes c a hn p) ∙ ap (apply_to And (word 1 (bit_of c))) (digit_of nodes d b hn q)
              ∙ and_digits c d;
        })

    pub or_gives : (a b : Id) (c d : Bool) (nodes : List Node) → IsTruth v c nodes a → IsTruth v d nodes b →
        Gives inputs v (made kinds (Bin Or a b)) nodes (IsTruth v (c || d))
    or_gives a b c d nodes p q h =
        let o = made kinds (Bin Or a b) nodes in
        let hn = fits_fewer inputs v nodes o.nodes (made_grows kinds (Bin Or a b) nodes) h in
        let m = made_is inputs v kinds (Bin Or a b) nodes (can_or nodes a b 1 p.wide q.wide) h in
        truth_of o.nodes (c || d) o.value (record {
          wide = m.wide ∙ ap (λ z. Some z) (width_is nodes a 1 p.wide);
          is = m.is ∙ ap (λ z. apply_to Or z (v b.0)) (digit_of nodes c a hn p) ∙ ap (apply_to Or (word 1 (bit_of c))) (digit_of nodes d b hn q)
              ∙ or_digits c d;
        })
