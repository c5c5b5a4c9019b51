-- What the states that obligations begin with are worth, and the tests of states.
use Rattle.std.specs.Prelude.{◌≡◌, ◌+◌, ℕ, true, IsTrue, List, map, option_map, All, Option}
use Rattle.ygg_syntax.specs.declared.tree.Declared.{Declared}
use Rattle.ygg_syntax.specs.declared.tree.Def.{Def}
use Rattle.ygg_syntax.specs.declared.tree.Expr.{Expr}
use Rattle.ygg_syntax.specs.declared.tree.Operation.{Operation}
use Rattle.ygg_sym_laws.specs.ygg_type_rules.Layers.{operation_signature}
use Rattle.ygg_sym_laws.specs.ygg_type_rules.Shapes.{answer_shape}
use Rattle.ygg_sym_laws.specs.ygg_meaning.Environments.{Env, same_env}
use Rattle.ygg_sym_laws.specs.ygg_meaning.Meaning.{value_with, is_one}
use Rattle.ygg_sym_laws.specs.ygg_meaning.Layer.{ClosedLayer}
use Rattle.ygg_sym_laws.specs.ygg_meaning.Refines.{Below}
use Rattle.ygg_sym_laws.specs.ygg_meaning.Related.{shaped, all_true, relates, settles, related, settled}
use Rattle.ygg_sym_laws.specs.ygg_meaning.Shapes.{shape_in, env_fits, zeros_of}
use Rattle.ygg_sym_laws.specs.ygg_meaning.Violates.{same_answer}
use Rattle.ygg_sym_laws.specs.ygg_meaning_laws.Questions.{gives}
use Rattle.ygg_sym_laws.specs.ygg_rules.declared.rule.RuleKind.{RuleKind}
use Rattle.ygg_sym_laws.specs.ygg_bank.Inputs.{InputsBelow, KeepsInputs}
use Rattle.ygg_sym_laws.specs.ygg_bank.Makes.{Make}
use Rattle.ygg_sym_laws.specs.ygg_bank.Nodes.{HasWidth}
use Rattle.ygg_sym_laws.specs.ygg_bank.Values.{Inputs, Values}
use Rattle.ygg_sym_laws.specs.ygg_bank.declared.node.Id.{Id}
use Rattle.ygg_sym_laws.specs.ygg_bank.declared.node.Node.{Node}
use Rattle.ygg_sym_laws.specs.ygg_shape_cells.declared.terms.SymValue.{SymValue}
use Rattle.ygg_sym_laws.specs.ygg_sym_runs.Names.{SymScope}
use Rattle.ygg_sym_laws.specs.ygg_sym_runs.ExpressionMeaning.{ScopeShaped, Grows, Gives, worths, scope_worth}
use Rattle.ygg_sym_laws.specs.Meaning.{AnswerShaped, answer_worth, is_set}
use Rattle.ygg_sym_laws.specs.Lows.{LowShaped, low_worth}
use Rattle.ygg_sym_laws.specs.Below.{zeros_made}
use Rattle.ygg_sym_laws.specs.Means.{terms_of}
use Rattle.ygg_oblige_laws.specs.LayerTerms.{ShapesKept, FormulaTyped, LayerTyped}
use Rattle.ygg_oblige_laws.specs.Outcomes.{answers_compared}
use Rattle.ygg_oblige_laws.specs.TermStates.{Trio, Starting, words_in, state_words, all_compared, truths_made, related_made, settled_made, starting}
use Rattle.ygg_oblige_laws.specs.Inputs.{given_env, InputsStand}
use Rattle.ygg_oblige_laws.specs.Worth.{LowIs, IsTruth, TrioShaped, Stand, trio_worth}

-- a step adds nodes, none of which is an input
pub record AddsNoInputs {A : Type 0} (m : Make A) : Type 0 where
  pub grows : Grows m
  pub inputs : (nodes : List Node) → KeepsInputs nodes (m nodes).nodes

-- What zeros and comparisons are worth.
pub record ComparingMeans (kinds : List RuleKind) : Type 0 where
  pub zeros : (inputs : Inputs) (v : Values) (ds : List Declared) (nodes : List Node) → ShapesKept ds →
      Gives inputs v (zeros_made kinds ds) nodes (LowIs v ds (zeros_of ds))
  pub zeros_add : (ds : List Declared) → AddsNoInputs (zeros_made kinds ds)
  pub same : (inputs : Inputs) (v : Values) (ds : List Declared) (xs ys : List SymValue) (nodes : List Node) → LowShaped nodes ds xs → LowShaped nodes ds ys →
      Gives inputs v (all_compared kinds xs ys) nodes (IsTruth v (same_env (low_worth v ds xs) (low_worth v ds ys)))
  pub same_add : (xs ys : List SymValue) → AddsNoInputs (all_compared kinds xs ys)
  pub answers : (inputs : Inputs) (v : Values) (o : Operation) (y z : Option SymValue) (nodes : List Node) →
      answer_shape o.answer ≡ option_map shape_in o.answer → AnswerShaped nodes y → AnswerShaped nodes z →
      IsTrue (gives (operation_signature o) (answer_worth v y)) → IsTrue (gives (operation_signature o) (answer_worth v z)) →
      Gives inputs v (answers_compared kinds y z) nodes (IsTruth v (same_answer (answer_worth v y) (answer_worth v z)))
  pub answers_add : (y z : Option SymValue) → AddsNoInputs (answers_compared kinds y z)

-- so it is for each book
abbrev pub ComparingMeansSo : Type 0
ComparingMeansSo = (kinds : List RuleKind) → ComparingMeans kinds

-- a term that is 1 just where the layer's relation holds of this
pub record RelatedIs (v : Values) (L : ClosedLayer) (s : Stand) (nodes : List Node) (a : Id) : Type 0 where
  pub wide : HasWidth nodes a 1
  pub relates : is_set v a ≡ all_true (relates L s.vars s.memory s.low)
  pub related : is_set v a ≡ related L s.vars s.memory s.low

-- a term that is 1 just where this state below is settled
pub record SettledIs (v : Values) (L : ClosedLayer) (low : Env) (nodes : List Node) (a : Id) : Type 0 where
  pub wide : HasWidth nodes a 1
  pub settles : is_set v a ≡ all_true (settles L low)
  pub settled : is_set v a ≡ settled L low

-- the variables, the memory and the state below that inputs give, numbered on from a number
abbrev pub given_stand : Inputs → ℕ → ClosedLayer → Stand
given_stand inputs number L = record {
  vars = given_env inputs number L.layer.state;
  memory = given_env inputs (number + words_in L.layer.state) L.layer.memory;
  low = given_env inputs (number + words_in L.layer.state + words_in L.layer.memory) L.low;
}

-- what the states that obligations begin with are worth, where inputs give these variables, this memory and this state below
pub record StartsSo (v : Values) (L : ClosedLayer) (s : Stand) (nodes : List Node) (S : Starting) : Type 0 where
  pub related : RelatedIs v L s nodes S.related
  pub from_shaped : TrioShaped L nodes S.from
  pub from : is_set v S.related ≡ true → trio_worth v L S.from ≡ s
  pub settled : SettledIs v L s.low nodes S.settled
  pub low_shaped : LowShaped nodes L.low S.settled_low
  pub low : is_set v S.settled ≡ true → low_worth v L.low S.settled_low ≡ s.low
  -- the values that the inputs give have the declared shapes
  pub fits : IsTrue (shaped L s.vars s.memory s.low)

-- the inputs of all words of a layer's states, numbered on from a number
pub record StatesStand (number : ℕ) (L : ClosedLayer) (nodes : List Node) : Type 0 where
  pub vars : InputsStand number L.layer.state nodes
  pub memory : InputsStand (number + words_in L.layer.state) L.layer.memory nodes
  pub low : InputsStand (number + words_in L.layer.state + words_in L.layer.memory) L.low nodes

module _ (kinds : List RuleKind) (defs : List Def) (G : Below) (L : ClosedLayer) where
  -- What a layer's relation, its settled states and the states that its obligations begin with are worth.
  pub record StatesMean : Type 0 where
    pub truths : (inputs : Inputs) (v : Values) (own low : List Declared) (es : List Expr) (scope : SymScope) (nodes : List Node) →
        All (FormulaTyped defs L own low) es → ScopeShaped nodes scope → IsTrue (env_fits own (worths v scope.own)) →
        IsTrue (env_fits low (worths v scope.low)) →
        Gives inputs v (truths_made kinds (terms_of kinds defs) es scope) nodes
        (IsTruth v (all_true (map (λ e. is_one (value_with L.functions e (scope_worth v scope))) es)))
    pub truths_add : (es : List Expr) (scope : SymScope) → AddsNoInputs (truths_made kinds (terms_of kinds defs) es scope)
    pub related : (inputs : Inputs) (v : Values) (x : Trio) (nodes : List Node) → TrioShaped L nodes x →
        Gives inputs v (related_made kinds (terms_of kinds defs) L x) nodes (RelatedIs v L (trio_worth v L x))
    pub related_add : (x : Trio) → AddsNoInputs (related_made kinds (terms_of kinds defs) L x)
    pub settled : (inputs : Inputs) (v : Values) (low : List SymValue) (nodes : List Node) → LowShaped nodes L.low low →
        Gives inputs v (settled_made kinds (terms_of kinds defs) L low) nodes (SettledIs v L (low_worth v L.low low))
    pub settled_add : (low : List SymValue) → AddsNoInputs (settled_made kinds (terms_of kinds defs) L low)
    pub starts : (inputs : Inputs) (v : Values) (number : ℕ) (nodes : List Node) → InputsBelow number nodes →
        Gives inputs v (starting kinds (terms_of kinds defs) L number) nodes (StartsSo v L (given_stand inputs number L))
    pub stand : (number : ℕ) (nodes : List Node) → StatesStand number L (starting kinds (terms_of kinds defs) L number nodes).nodes
    pub starting_grows : (number : ℕ) → Grows (starting kinds (terms_of kinds defs) L number)
    pub starting_below : (number : ℕ) (nodes : List Node) → InputsBelow number nodes →
        InputsBelow (number + state_words L) (starting kinds (terms_of kinds defs) L number nodes).nodes

-- a layer without a type error has them
abbrev pub StatesMeanSo : Type 0
StatesMeanSo = (kinds : List RuleKind) (defs : List Def) (G : Below) (L : ClosedLayer) → LayerTyped defs G L → StatesMean kinds defs G L
