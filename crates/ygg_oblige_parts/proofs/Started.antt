-- The states that obligations begin with, step by step.
use Rattle.std.proofs.Common.{◌≡◌, ℕ, ◌+◌, List, ap, ◌∙◌}
use Rattle.ygg_syntax.specs.declared.tree.Declared.{Declared}
use Rattle.ygg_syntax.specs.declared.tree.Def.{Def}
use Rattle.ygg_sym_spec.specs.ygg_meaning.Layer.{ClosedLayer}
use Rattle.ygg_sym_spec.specs.ygg_meaning.Refines.{Below}
use Rattle.ygg_sym_spec.specs.ygg_rules.declared.rule.RuleKind.{RuleKind}
use Rattle.ygg_sym_spec.specs.ygg_bank.Inputs.{InputsBelow}
use Rattle.ygg_sym_spec.specs.ygg_bank.Makes.{Make, Out, pure, and_make, goes_on}
use Rattle.ygg_sym_spec.specs.ygg_bank.Nodes.{IsBank}
use Rattle.ygg_sym_spec.specs.ygg_bank.Values.{value_of}
use Rattle.ygg_sym_spec.specs.ygg_bank.declared.node.Id.{Id}
use Rattle.ygg_sym_spec.specs.ygg_bank.declared.node.Node.{Node}
use Rattle.ygg_sym_spec.proofs.of_ygg_shape.Answered.{no_inputs, some_fit}
use Rattle.ygg_sym_spec.specs.ygg_shape_cells.declared.terms.SymValue.{SymValue}
use Rattle.ygg_oblige_laws.specs.ygg_shape.declared.replacing.Replacement.{Replacement}
use Rattle.ygg_sym_spec.specs.ygg_sym_runs.Exprs.{SymFunctions}
use Rattle.ygg_oblige_laws.specs.Means.{terms_of}
use Rattle.ygg_oblige_laws.specs.LayerTerms.{LayerTyped}
use Rattle.ygg_oblige_laws.specs.TermStates.{
  Trio,
  Under,
  Starting,
  fresh_all,
  fresh_trio,
  replaced_all,
  replaced_trio,
  started_made,
  starting,
  words_in,
}
use Rattle.ygg_oblige_laws.proofs.Starting.{states_mean}
use Rattle.ygg_oblige_parts.specs.Makers.{StartingShaped}

-- a test made anew, where each step went as it is defined to
pub under_from : {A : Type 0} (f : Id → Make (List Replacement)) (k : List Replacement → Make Id) (g : A → Make Id) (r : List Replacement → A)
    (j : Id → Id → Make Id) (F : Out Id) (said known rest test : Id) (facts : List Replacement) (y : A) (one two three four five : List Node) →
    said ≡ F.value → one ≡ F.nodes → facts ≡ (f said one).value → two ≡ (f said one).nodes → y ≡ r facts → known ≡ (k facts two).value →
    three ≡ (k facts two).nodes → rest ≡ (g y three).value → four ≡ (g y three).nodes → test ≡ (j known rest four).value →
    five ≡ (j known rest four).nodes →
    (let O : Out Under = record { value = record { test = test; facts = facts }; nodes = five } in O)
    ≡ goes_on F (λ said. and_make (f said) (λ facts. and_make (k facts) (λ known. and_make (g (r facts)) (λ rest.
    and_make (j known rest) (λ test. pure (let U : Under = record { test = test; facts = facts } in U))))))
under_from f k g r j F said known rest test facts y one two three four five a b c d e h i l m n o = cc

-- what is made of steps, where each went as it is defined to
pub started_from : (R : Out Under) (s : Make Under) (x : Trio) (related settled : Id) (one last : List Node) (from : Trio) (low : List SymValue) →
    related ≡ R.value.test → one ≡ R.nodes → from ≡ replaced_trio R.value.facts x → settled ≡ (s one).value.test → last ≡ (s one).nodes →
    low ≡ replaced_all (s one).value.facts x.low →
    (let O : Out Starting = record { value = record { related = related; from = from; settled = settled; settled_low = low }; nodes = last } in O)
    ≡ goes_on R (λ r. and_make s (λ q. pure (let S : Starting = record {
      related = r.test;
      from = replaced_trio r.facts x;
      settled = q.test;
      settled_low = replaced_all q.facts x.low;
    } in S)))
started_from R s x related settled one last from low a b c d e f = cc

module _ (kinds : List RuleKind) (terms : SymFunctions) (L : ClosedLayer) where
  -- a trio of inputs, where each step went as it is defined to
  pub trio_from : (ds es : List Declared) (number own more : ℕ) (vars memory low : List SymValue) (old one two three : List Node) →
      ds ≡ L.layer.state → es ≡ L.layer.memory → own ≡ words_in ds → more ≡ words_in es →
      vars ≡ (fresh_all kinds number ds old).value → one ≡ (fresh_all kinds number ds old).nodes →
      memory ≡ (fresh_all kinds (number + own) es one).value → two ≡ (fresh_all kinds (number + own) es one).nodes →
      low ≡ (fresh_all kinds (number + own + more) L.low two).value → three ≡ (fresh_all kinds (number + own + more) L.low two).nodes →
      (let O : Out Trio = record { value = record { vars = vars; memory = memory; low = low }; nodes = three } in O) ≡ fresh_trio kinds terms L number old
  trio_from ds es number own more vars memory low old one two three a b d e f h i j k m = cc

  pub starting_from : (number : ℕ) (old : List Node) (x : Trio) (mid : List Node) → x ≡ (fresh_trio kinds terms L number old).value →
      mid ≡ (fresh_trio kinds terms L number old).nodes → started_made kinds terms L x mid ≡ starting kinds terms L number old
  starting_from number old x mid p q =
      ap (λ z. started_made kinds terms L z mid) p ∙ ap (started_made kinds terms L (fresh_trio kinds terms L number old).value) q

module _ (kinds : List RuleKind) (defs : List Def) (G : Below) (L : ClosedLayer) (typed : LayerTyped defs G L) where
  pub starting_stands : (number : ℕ) (old : List Node) → InputsBelow number old → IsBank (starting kinds (terms_of kinds defs) L number old).nodes →
      StartingShaped L (starting kinds (terms_of kinds defs) L number old).nodes (starting kinds (terms_of kinds defs) L number old).value
  starting_stands number old below bank =
      let o = starting kinds (terms_of kinds defs) L number old in
      let m = states_mean kinds defs G L typed in
      let s = m.starts no_inputs (value_of no_inputs o.nodes) number old below (some_fit o.nodes bank) in
      record { related = s.related.wide; from = s.from_shaped; settled = s.settled.wide; low = s.low_shaped }
