-- What the specification's step and the test of its end are worth, over all lists of picks.
use Rattle.std.specs.Prelude.{◌≡◌, Bool, true, false, IsTrue, List, [], length}
use Rattle.ygg_syntax.specs.declared.tree.Declared.{Declared}
use Rattle.ygg_syntax.specs.declared.tree.Def.{Def}
use Rattle.ygg_sym_laws.specs.ygg_type_rules.Layers.{operation_signature}
use Rattle.ygg_sym_laws.specs.ygg_meaning.Environments.{bind}
use Rattle.ygg_sym_laws.specs.ygg_meaning.Layer.{ClosedLayer}
use Rattle.ygg_sym_laws.specs.ygg_meaning.Machine.{Picks, on, based}
use Rattle.ygg_sym_laws.specs.ygg_meaning.Obligations.{Schedule, Obligation, Init, CallOf, CutOf, TickOf, CutTickOf, Idle, Again, NoPicksPass}
use Rattle.ygg_sym_laws.specs.ygg_meaning.Refines.{Below}
use Rattle.ygg_sym_laws.specs.ygg_meaning.Violates.{End, most, spec_after, passes}
use Rattle.ygg_sym_laws.specs.ygg_meaning_laws.Questions.{gives}
use Rattle.ygg_sym_laws.specs.ygg_rules.declared.rule.RuleKind.{RuleKind}
use Rattle.ygg_sym_laws.specs.ygg_bank.Nodes.{HasWidth}
use Rattle.ygg_sym_laws.specs.ygg_bank.Values.{Inputs, Values}
use Rattle.ygg_sym_laws.specs.ygg_bank.declared.node.Id.{Id}
use Rattle.ygg_sym_laws.specs.ygg_bank.declared.node.Node.{Node}
use Rattle.ygg_sym_laws.specs.ygg_shape_cells.declared.terms.SymValue.{SymValue}
use Rattle.ygg_sym_laws.specs.ygg_sym_runs.ExpressionMeaning.{Gives}
use Rattle.ygg_sym_laws.specs.Meaning.{AnswerShaped, answer_worth, is_set}
use Rattle.ygg_sym_laws.specs.Lows.{LowShaped, low_worth}
use Rattle.ygg_sym_laws.specs.Means.{terms_of, values_in}
use Rattle.ygg_oblige_laws.specs.LayerTerms.{OperationFits, LayerTyped}
use Rattle.ygg_oblige_laws.specs.Numbers.{arguments_of}
use Rattle.ygg_oblige_laws.specs.Terms.{Finish, some_passes}
use Rattle.ygg_oblige_laws.specs.States.{AddsNoInputs}

-- the obligations that speak of the specification: all but that of a recovery after another
abbrev pub HasStep : Obligation → Type 0
HasStep Init = Unit {0}
HasStep (CallOf o) = Unit {0}
HasStep (CutOf o) = Unit {0}
HasStep (TickOf t) = Unit {0}
HasStep (CutTickOf t) = Unit {0}
HasStep Idle = Unit {0}
HasStep Again = ⊥

-- the variables that the specification's step begins with; formatting begins with none
abbrev pub variables_of : ClosedLayer → Obligation → List Declared
variables_of L Init = []
variables_of L (CallOf o) = L.layer.state
variables_of L (CutOf o) = L.layer.state
variables_of L (TickOf t) = L.layer.state
variables_of L (CutTickOf t) = L.layer.state
variables_of L Idle = L.layer.state
variables_of L Again = L.layer.state

-- the operation that an obligation speaks of has no type error
abbrev pub ObligationTyped : List Def → Below → ClosedLayer → Obligation → Type 0
ObligationTyped defs G L Init = Unit {0}
ObligationTyped defs G L (CallOf o) = OperationFits defs G L o
ObligationTyped defs G L (CutOf o) = OperationFits defs G L o
ObligationTyped defs G L (TickOf t) = Unit {0}
ObligationTyped defs G L (CutTickOf t) = Unit {0}
ObligationTyped defs G L Idle = Unit {0}
ObligationTyped defs G L Again = Unit {0}

-- whether an end has an answer that the obligation speaks of: one of the operation's shape
abbrev pub AnswerKept : Values → Obligation → Finish → Type 0
AnswerKept v Init end = Unit {0}
AnswerKept v (CallOf o) end = IsTrue (gives (operation_signature o) (answer_worth v end.answer))
AnswerKept v (CutOf o) end = Unit {0}
AnswerKept v (TickOf t) end = Unit {0}
AnswerKept v (CutTickOf t) end = Unit {0}
AnswerKept v Idle end = Unit {0}
AnswerKept v Again end = Unit {0}

-- variables and arguments of the declared shapes among the nodes, and an end with an answer, a memory and a state below of theirs
pub record StepShaped (v : Values) (L : ClosedLayer) (o : Obligation) (nodes : List Node) (vars args : List SymValue) (end : Finish) : Type 0 where
  pub vars_are : LowShaped nodes (variables_of L o) vars
  pub args_are : LowShaped nodes (arguments_of o) args
  pub answer_shaped : AnswerShaped nodes end.answer
  pub answer_kept : AnswerKept v o end
  pub memory_are : LowShaped nodes L.layer.memory (values_in end.vars)
  pub low_are : LowShaped nodes L.low end.to

-- what a schedule says of the specification's step is what these values are worth
abbrev pub StepIs : Values → ClosedLayer → Obligation → List SymValue → List SymValue → Schedule → Type 0
StepIs v L Init vars args x = Unit {0}
StepIs v L (CallOf o) vars args x = (x.state ≡ low_worth v L.layer.state vars) × (bind o.arguments x.args ≡ low_worth v o.arguments args)
StepIs v L (CutOf o) vars args x = (x.state ≡ low_worth v L.layer.state vars) × (bind o.arguments x.args ≡ low_worth v o.arguments args)
StepIs v L (TickOf t) vars args x = x.state ≡ low_worth v L.layer.state vars
StepIs v L (CutTickOf t) vars args x = x.state ≡ low_worth v L.layer.state vars
StepIs v L Idle vars args x = x.state ≡ low_worth v L.layer.state vars
StepIs v L Again vars args x = x.state ≡ low_worth v L.layer.state vars

-- how a run over terms ends, as an end of runs with this on the side
abbrev pub end_worth : Values → ClosedLayer → Finish → Bool → End
end_worth v L end side = record {
  answer = answer_worth v end.answer;
  to = on (low_worth v L.layer.memory (values_in end.vars)) (based (low_worth v L.low end.to));
  side = side;
}

-- The term is 1 where the obligation's conclusion holds for some list of picks, and 0 where it holds for none, for a schedule that is worth these
-- values, and an end that is what this one is worth, with a side that holds.
pub record PassesSo (v : Values) (L : ClosedLayer) (o : Obligation) (x : Schedule) (end : End) (nodes : List Node) (a : Id) : Type 0 where
  pub wide : HasWidth nodes a 1
  pub some : is_set v a ≡ true → (picks : Picks) × (length picks ≡ most L o) × (passes L o end (spec_after L o x picks) ≡ true)
  pub none : is_set v a ≡ false → NoPicksPass (most L o) (λ picks. passes L o end (spec_after L o x picks))

module _ (kinds : List RuleKind) (defs : List Def) (G : Below) (L : ClosedLayer) where
  -- What the test of all ends of the specification's step is worth.
  pub record StepsMean : Type 0 where
    pub passes : (inputs : Inputs) (v : Values) (o : Obligation) (vars args : List SymValue) (end : Finish) (x : Schedule) (nodes : List Node) →
        HasStep o → ObligationTyped defs G L o → StepShaped v L o nodes vars args end → StepIs v L o vars args x →
        Gives inputs v (some_passes kinds (terms_of kinds defs) L o vars args end) nodes (PassesSo v L o x (end_worth v L end true))
    pub adds : (o : Obligation) (vars args : List SymValue) (end : Finish) →
        AddsNoInputs (some_passes kinds (terms_of kinds defs) L o vars args end)

-- a layer without a type error has it
abbrev pub StepsMeanSo : Type 0
StepsMeanSo = (kinds : List RuleKind) (defs : List Def) (G : Below) (L : ClosedLayer) → LayerTyped defs G L → StepsMean kinds defs G L
