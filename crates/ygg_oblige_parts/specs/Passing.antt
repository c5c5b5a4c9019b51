-- Whether the specification's step passes after a run, in code.
use Rattle.std.specs.Prelude.{ℕ, List, [], Option}
use Rattle.ygg_sym_spec.specs.ygg_meaning.Layer.{ClosedLayer}
use Rattle.ygg_sym_spec.specs.ygg_meaning.Machine.{Picks}
use Rattle.ygg_sym_spec.specs.ygg_meaning.Obligations.{Obligation, Init, CallOf, CutOf, TickOf, CutTickOf, Idle, Again}
use Rattle.ygg_sym_spec.specs.ygg_meaning.Violates.{most}
use Rattle.ygg_sym_spec.specs.ygg_rules.declared.rule.RuleKind.{RuleKind}
use Rattle.ygg_value.specs.declared.operation.Op.TheVariants.{And}
use Rattle.ygg_sym_spec.specs.ygg_bank.Makes.{Make, and_make}
use Rattle.ygg_sym_spec.specs.ygg_bank.Making.{made}
use Rattle.ygg_sym_spec.specs.ygg_bank.Values.{Inputs, Values, Fits}
use Rattle.ygg_sym_spec.specs.ygg_bank.declared.node.Id.{Id}
use Rattle.ygg_sym_spec.specs.ygg_bank.declared.node.Node.{Node}
use Rattle.ygg_sym_spec.specs.ygg_bank.declared.node.Node.TheVariants.{Bin}
use Rattle.ygg_sym_spec.specs.ygg_shape_cells.declared.terms.SymValue.{SymValue}
use Rattle.ygg_sym_spec.specs.ygg_sym_runs.Exprs.{SymFunctions}
use Rattle.ygg_sym_spec.specs.ygg_sym_runs.Meaning.{AnswerShaped}
use Rattle.ygg_sym_spec.specs.ygg_sym_runs.Lower.{SingleFrom}
use Rattle.ygg_sym_spec.specs.ygg_sym_runs.Lows.{LowShaped}
use Rattle.ygg_sym_spec.specs.Layers.{closed, terms_in}
use Rattle.ygg_sym_spec.specs.declared.layer.SymLayer.{SymLayer}
use Rattle.ygg_sym_spec.specs.Sites.{below_in}
use Rattle.ygg_sym_spec.specs.declared.below.SymBelow.{SymBelow}
use Rattle.ygg_oblige_laws.specs.Numbers.{arguments_of}
use Rattle.ygg_oblige_laws.specs.Outcomes.{any_picks, outcome_made}
use Rattle.ygg_oblige_laws.specs.TermStates.{related_made}
use Rattle.ygg_oblige_laws.specs.Terms.{Finish, same_answers_made}
use Rattle.ygg_oblige_laws.specs.Steps.{AnswerKept, HasStep, ObligationTyped, variables_of}
use Rattle.ygg_oblige_parts.specs.Digits.{AnswersAlike}
use Rattle.ygg_oblige_parts.specs.Makers.{LayerFits}
use Rattle.ygg_oblige_list.specs.InCode.{obligation_of}
use Rattle.ygg_oblige_parts.specs.declared.passing.SymStep.{SymStep}

-- two answers may be compared, where the obligation speaks of an answer
abbrev pub AskedAlike : Obligation → List Node → Option SymValue → Option SymValue → Type 0
AskedAlike Init nodes y z = Unit {0}
AskedAlike (CallOf o) nodes y z = AnswersAlike nodes y z
AskedAlike (CutOf o) nodes y z = Unit {0}
AskedAlike (TickOf t) nodes y z = Unit {0}
AskedAlike (CutTickOf t) nodes y z = Unit {0}
AskedAlike Idle nodes y z = Unit {0}
AskedAlike Again nodes y z = Unit {0}

module _ (kinds : List RuleKind) (terms : SymFunctions) (L : ClosedLayer) where
  -- whether the specification's step with these picks gives variables that are related to this memory and state below, and this answer where one is
  -- spoken of
  abbrev pub passes_in : Obligation → List SymValue → List SymValue → Option SymValue → List SymValue → List SymValue → Picks → Make Id
  passes_in o vars args answer memory low picks =
      and_make (outcome_made kinds terms L o vars args picks) (λ out.
      and_make (same_answers_made kinds o answer out.answer) (λ same.
      and_make (related_made kinds terms L (record { vars = out.to; memory = memory; low = low })) (λ related.
      made kinds (Bin And same related))))

  -- whether some step does
  abbrev pub some_in : Obligation → List SymValue → List SymValue → Option SymValue → List SymValue → List SymValue → Make Id
  some_in o vars args answer memory low = any_picks kinds (most L o) [] (passes_in o vars args answer memory low)

module _ (kinds : List RuleKind) (l : SymLayer) (s : SymStep) where
  -- whether the specification's step with these picks passes
  abbrev pub passes_of : Picks → Make Id
  passes_of = passes_in kinds (terms_in kinds l) (closed l) (obligation_of s.obligation) s.vars.now s.args.now s.answer.now s.memory.now s.low.now

  -- whether some step of the specification passes
  abbrev pub some_of : Make Id
  some_of = some_in kinds (terms_in kinds l) (closed l) (obligation_of s.obligation) s.vars.now s.args.now s.answer.now s.memory.now s.low.now

-- an end of which only the answer counts
abbrev pub answered : Option SymValue → Finish
answered answer = record { answer = answer; vars = []; to = [] }

-- what a step begins with and what the run left have the declared shapes, an answer that is spoken of has the operation's, and inputs from a number
-- on are single digits
pub record StepFits (l : SymLayer) (g : SymBelow) (nodes : List Node) (o : Obligation) (vars args : List SymValue) (answer : Option SymValue)
    (memory low : List SymValue) (first : ℕ) : Type 0 where
  pub layer : LayerFits l g
  pub typed : ObligationTyped l.defs.now (below_in g) (closed l) o
  pub has : HasStep o
  pub vars_are : LowShaped nodes (variables_of (closed l) o) vars
  pub args_are : LowShaped nodes (arguments_of o) args
  pub memory_are : LowShaped nodes (l.layer.now).memory memory
  pub low_are : LowShaped nodes l.low.now low
  pub answer_shaped : AnswerShaped nodes answer
  pub answer_kept : (inputs : Inputs) (v : Values) → Fits inputs v nodes → AnswerKept v o (answered answer)
  pub single : SingleFrom first nodes

-- the same of a step in code
abbrev pub StepCan : SymLayer → SymBelow → List Node → SymStep → Type 0
StepCan l g nodes s = StepFits l g nodes (obligation_of s.obligation) s.vars.now s.args.now s.answer.now s.memory.now s.low.now s.first
