-- What is told of a schedule of an obligation.
use Rattle.std.specs.Prelude.{◌≡◌, ℕ, zero, suc, Bool, true, false, List, [], ◌∷◌, ◌++◌, slice_get, Option, Some, None, codes}
use Rattle.ygg_value.specs.Values.{same_value}
use Rattle.ygg_value.specs.declared.row.Value.{Value}
use Rattle.ygg_syntax.specs.declared.tree.Expr.{Expr}
use Rattle.ygg_replay.specs.ygg_meaning.Environments.{Env}
use Rattle.ygg_replay.specs.ygg_meaning.Meaning.{Scope}
use Rattle.ygg_replay.specs.ygg_meaning.Progress.{Answer}
use Rattle.ygg_replay.specs.ygg_meaning.Machine.{Picks, State, Machine, memory_in}
use Rattle.ygg_replay.specs.ygg_meaning.Layer.{ClosedLayer}
use Rattle.ygg_replay.specs.ygg_meaning.Related.{relations}
use Rattle.ygg_replay.specs.ygg_meaning.Spec.{Outcome}
use Rattle.ygg_replay.specs.ygg_meaning.Obligations.{Schedule, Obligation, Init, CallOf, CutOf, TickOf, CutTickOf, Idle, Again}
use Rattle.ygg_replay.specs.ygg_meaning.Violates.{End, Meets, most, spec_after}
use Rattle.ygg_replay.specs.ygg_meaning.Replayed.{Replayed, Shows, Hypothesis, Passes, pick_lists}
use Rattle.ygg_sched.specs.declared.case.CaseKind.{CaseKind}
use Rattle.ygg_sched.specs.declared.case.CaseKind.TheVariants as kind
use Rattle.ygg_sched.specs.Cases.{kind_of}
use Rattle.ygg_sched.specs.Values.{value_text}
use Rattle.ygg_sched.specs.Printing.{bits_line, line_of}
use Rattle.ygg_explain.specs.Lines.{both_text, env_lines}
use Rattle.ygg_explain.specs.Parts.{AreParts, AreAllParts}

-- the names that `relate` and `always` see
abbrev pub scope_at : Env → Env → Env → Scope
scope_at vars memory low = record { own = vars ++ memory; low = low }

-- the line of an answer, where there is one
abbrev pub answer_lines : Answer → List ℕ
answer_lines None = []
answer_lines (Some v) = line_of (codes "answer " ++ value_text v)

-- memory and machine below where the runs end, and the answer
abbrev pub reached_lines : State Env → Answer → List ℕ
reached_lines to answer = env_lines (codes "reached memory ") (memory_in to) ++ (env_lines (codes "reached ") to.base ++ answer_lines answer)

-- the word of a test
abbrev pub truth_word : Bool → List ℕ
truth_word true = codes "true "
truth_word false = codes "false "

-- whether two answers are the same, the specification's first
abbrev pub compared_lines : Value → Value → List ℕ
compared_lines given wanted = line_of (truth_word (same_value given wanted) ++ codes "answer" ++ both_text wanted given)

-- the same of an operation that gives an answer
abbrev pub answers_lines : CaseKind → Answer → Answer → List ℕ
answers_lines kind.Call (Some given) (Some wanted) = compared_lines given wanted
answers_lines _ given wanted = []

-- whether what power left is settled, of a run that power cuts and the recovery after it
abbrev pub settled_words : Bool → List ℕ
settled_words true = codes "settled"
settled_words false = codes "unsettled"

abbrev pub settled_lines : CaseKind → Bool → List ℕ
settled_lines kind.Cut side = line_of (settled_words side)
settled_lines kind.CutTick side = line_of (settled_words side)
settled_lines kind.Idle side = line_of (settled_words side)
settled_lines _ side = []

-- whether two recoveries are asked for
abbrev pub is_again : CaseKind → Bool
is_again kind.Again = true
is_again _ = false

-- all lists of as many picks; two recoveries ask for none
abbrev pub lists_by : CaseKind → ℕ → List Picks
lists_by kind.Again most = []
lists_by _ most = pick_lists most

-- what names a part of the relation
abbrev pub relation_word : ℕ → List ℕ
relation_word zero = codes "relate"
relation_word (suc number) = codes "always"

module _ (L : ClosedLayer) where
  -- the parts of the layer's `relate`, and of each `always`
  pub record IsRelation (vars memory low : Env) (text : List ℕ) : Type 0 where
    pub relate : List ℕ
    pub always : List ℕ
    pub is_relate : AreParts L.functions (scope_at vars memory low) true (codes "relate") L.layer.relate relate
    pub is_always : AreAllParts L.functions (scope_at vars memory low) true (codes "always") L.layer.always always
    pub text_is : text ≡ relate ++ always

  -- the formulas whose truth an obligation speaks of at its first states
  abbrev pub formulas_of : Obligation → List Expr
  formulas_of Init = []
  formulas_of (CallOf o) = relations L
  formulas_of (CutOf o) = relations L
  formulas_of (TickOf t) = relations L
  formulas_of (CutTickOf t) = relations L
  formulas_of Idle = relations L
  formulas_of Again = L.layer.settled

  -- what names them
  abbrev pub formula_word : Obligation → ℕ → List ℕ
  formula_word Init number = relation_word number
  formula_word (CallOf o) number = relation_word number
  formula_word (CutOf o) number = relation_word number
  formula_word (TickOf t) number = relation_word number
  formula_word (CutTickOf t) number = relation_word number
  formula_word Idle number = relation_word number
  formula_word Again number = codes "settled"

  -- the names that they see
  abbrev pub first_scope : Obligation → Schedule → Scope
  first_scope Init x = scope_at x.state x.memory x.low
  first_scope (CallOf o) x = scope_at x.state x.memory x.low
  first_scope (CutOf o) x = scope_at x.state x.memory x.low
  first_scope (TickOf t) x = scope_at x.state x.memory x.low
  first_scope (CutTickOf t) x = scope_at x.state x.memory x.low
  first_scope Idle x = scope_at x.state x.memory x.low
  first_scope Again x = scope_at [] [] x.low

  -- the false parts of a formula, where there is one
  abbrev pub AreFalseOf : List ℕ → Scope → Option Expr → List ℕ → Type 0
  AreFalseOf which scope None text = text ≡ []
  AreFalseOf which scope (Some e) text = AreParts L.functions scope false which e text

  -- the false parts of the formula of this number
  abbrev pub AreFalseParts : Obligation → Schedule → ℕ → List ℕ → Type 0
  AreFalseParts o x number text = AreFalseOf (formula_word o number) (first_scope o x) (slice_get (formulas_of o) number) text

module _ (L : ClosedLayer) (o : Obligation) (x : Schedule) (end : End) where
  -- the specification's step with these picks, the state that it gives, and the parts of the relation of that state and the one reached
  pub record IsChoice (picks : Picks) (text : List ℕ) : Type 0 where
    pub out : Outcome
    pub is : spec_after L o x picks ≡ Some out
    pub parts : List ℕ
    pub relation : IsRelation L out.vars (memory_in end.to) end.to.base parts
    pub text_is : text ≡ bits_line (codes "picks ") picks
        ++ (env_lines (codes "allowed ") out.vars ++ (answers_lines (kind_of o) end.answer out.answer ++ parts))

  -- the same of several lists of picks, in their order
  pub data AreChoices : List Picks → List ℕ → Type 0 where
    none : AreChoices [] []
    more : {picks : Picks} {others : List Picks} {t u : List ℕ} → IsChoice picks t → AreChoices others u → AreChoices (picks ∷ others) (t ++ u)

module _ (L : ClosedLayer) (M : Machine Env Bool) (o : Obligation) (x : Schedule) where
  -- where the runs end that the obligation speaks of, and what the specification may do
  pub record IsTold (text : List ℕ) : Type 0 where
    pub end : End
    pub meets : Meets L M o x end
    pub choices : List ℕ
    pub allowed : AreChoices L o x end (lists_by (kind_of o) (most L o)) choices
    pub text_is : text ≡ settled_lines (kind_of o) end.side ++ (reached_lines end.to end.answer ++ choices)

  -- what is told of a schedule that shows this: the runs' end, or the false parts of a false hypothesis on the first states
  abbrev pub ToldOf : Replayed → List ℕ → Type 0
  ToldOf Shows text = IsTold text
  ToldOf (Passes picks) text = IsTold text
  ToldOf (Hypothesis number) text = AreFalseParts L o x number text
