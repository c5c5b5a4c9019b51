-- What runs over terms are worth, in every environment.
use Rattle.std.specs.Prelude.{◌≡◌, ◌==◌, ◌+◌, ℕ, Bool, IsTrue, List, [], ◌∷◌, ◌++◌, reverse, is_some, Option, Some}
use Rattle.ygg_value.specs.declared.shape.Shape.{Shape}
use Rattle.ygg_syntax.specs.declared.grammar.BlockKind.TheVariants.{Impl}
use Rattle.ygg_syntax.specs.declared.tree.Def.{Def}
use Rattle.ygg_base.specs.declared.geometry.DiskKind.{DiskKind}
use Rattle.ygg_syntax.specs.declared.tree.Block.{Block}
use Rattle.ygg_syntax.specs.declared.tree.DiskText.{DiskText}
use Rattle.ygg_sym_runs.specs.ygg_type_rules.Names.{Named}
use Rattle.ygg_sym_runs.specs.ygg_type_rules.declared.scope.Signature.{Signature}
use Rattle.ygg_sym_runs.specs.ygg_type_rules.TypeErrors.{none}
use Rattle.ygg_sym_runs.specs.ygg_type_rules.Scopes.{Scope}
use Rattle.ygg_sym_runs.specs.ygg_type_rules.Statements.{block_errors}
use Rattle.ygg_sym_runs.specs.ygg_type_rules.Definitions.{definitions_errors, with_definitions}
use Rattle.ygg_sym_runs.specs.ygg_type_rules.Files.{disk_errors, disk_operations}
use Rattle.ygg_sym_runs.specs.ygg_meaning.Environments.{Name, Env}
use Rattle.ygg_sym_runs.specs.ygg_meaning.Meaning.{functions_of}
use Rattle.ygg_sym_runs.specs.ygg_meaning.Machine.{Picks, State, on, based}
use Rattle.ygg_sym_runs.specs.ygg_meaning.Layer.{ClosedLayer, operation_of}
use Rattle.ygg_sym_runs.specs.ygg_meaning.Obligations.{Halt}
use Rattle.ygg_sym_runs.specs.ygg_meaning.DiskMachine.{DiskMachine}
use Rattle.ygg_sym_runs.specs.ygg_meaning.Stack.{tables_of}
use Rattle.ygg_sym_runs.specs.ygg_meaning_laws.Agrees.{Agrees}
use Rattle.ygg_sym_runs.specs.ygg_meaning_laws.Kinds.{keeps}
use Rattle.ygg_sym_runs.specs.ygg_meaning_laws.Questions.{plain}
use Rattle.ygg_sym_runs.specs.ygg_rules.declared.rule.RuleKind.{RuleKind}
use Rattle.ygg_sym_runs.specs.ygg_bank.Inputs.{InputsBelow}
use Rattle.ygg_sym_runs.specs.ygg_bank.Nodes.{IsBank}
use Rattle.ygg_sym_runs.specs.ygg_bank.Values.{Inputs, Values, InputsFit, value_of}
use Rattle.ygg_sym_runs.specs.ygg_bank.declared.node.Node.{Node}
use Rattle.ygg_sym_runs.specs.ygg_shape_cells.declared.terms.SymValue.{SymValue}
use Rattle.ygg_sym_runs.specs.ygg_meaning_laws.Direct.{room_of}
use Rattle.ygg_sym_runs.specs.ygg_meaning_laws.Acts.{noted_picks}
use Rattle.ygg_sym_runs.specs.ygg_meaning_laws.DiskActs.{disk_acts}
use Rattle.ygg_sym_runs.specs.ygg_meaning_laws.DirectLaws.{RunsOn, FallsOn, Sees}
use Rattle.ygg_sym_runs.specs.ygg_meaning_laws.SpecActs.{spec_acts}
use Rattle.ygg_sym_runs.specs.ygg_meaning_laws.Machines.{SpecAnswers}
use Rattle.ygg_syntax.specs.declared.tree.Operation.{Operation}
use Rattle.ygg_sym_runs.specs.ygg_meaning.Spec.{Spec}
use Rattle.ygg_sym_runs.specs.Specs.{SpecBlock, input_pick, sym_spec}
use Rattle.ygg_sym_runs.specs.ygg_meaning_laws.RunPlaces.{disk_space, spec_space, placed_run, runs_by_place, falls_by_place}
use Rattle.ygg_sym_runs.specs.Names.{SymEnv}
use Rattle.ygg_sym_runs.specs.Exprs.{sym_functions}
use Rattle.ygg_sym_runs.specs.ExpressionMeaning.{EnvShaped, worths}
use Rattle.ygg_sym_runs.specs.Meaning.{answer_worth, is_set}
use Rattle.ygg_sym_runs.specs.Lows.{LowShaped, low_worth}
use Rattle.ygg_sym_runs.specs.Disks.{sym_disk}
use Rattle.ygg_sym_runs.specs.Wholes.{SymFinish, sym_whole, picks_from}
use Rattle.ygg_sym_runs.specs.Stops.{first_stop}
use Rattle.ygg_sym_runs.specs.StopTerms.{SymFallen, stop_whole}
use Rattle.ygg_sym_runs.specs.Cuts.{disk_stops}

-- the picks that an environment names, by place: the inputs from a number on
abbrev pub picked_by : Inputs → ℕ → ℕ → Bool
picked_by inputs first i = inputs (first + i) == 1

-- a block of an implementation in a scope of the definitions and of the operations below, in which it has no type error
pub record IsTypedOver (defs : List Def) (lower : Named Signature) (b : Block) : Type 0 where
  pub scope : Scope
  pub shape : Option Shape
  pub lower_is : scope.lower ≡ lower
  pub defs_is : scope.defs ≡ with_definitions defs []
  pub without_errors : IsTrue (none (block_errors b shape scope))
  pub kept : IsTrue (keeps Impl b)

-- a state of a layer on a machine below
abbrev pub state_worth : Values → SymEnv → Env → State Env
state_worth v vars low = on (worths v vars) (based low)

-- In every environment in which the names have values of the shapes that typing takes them to have, a whole run over terms of a block on a disk
-- is worth the run on the disk with the picks that the environment names by place, and so some run of the block on the disk with these names, this
-- state and these picks in the order in which it takes them.
pub record RunIsOnDisk (d : DiskText) (L : ClosedLayer) (b : Block) (v : Values) (bits : ℕ → Bool) (vars args : SymEnv) (from : List SymValue)
    (out : SymFinish (List SymValue)) (past : Bool) : Type 0 where
  pub by_place : runs_by_place disk_space (disk_acts past d) L b (worths v args) (state_worth v vars (low_worth v (tables_of d) from))
      (picks_from bits 0 (room_of disk_space b))
      ≡ record { answer = answer_worth v out.answer; to = state_worth v out.vars (low_worth v (tables_of d) out.to) }
  pub picks : Picks
  pub taken : Picks
  pub left : Picks
  pub run : RunsOn noted_picks (DiskMachine d) L b (worths v args) (state_worth v vars (low_worth v (tables_of d) from)) past picks
      (answer_worth v out.answer) (state_worth v out.vars (low_worth v (tables_of d) out.to)) taken left

-- so it is for each block of an implementation without type errors, over terms that stand among the nodes
abbrev pub RunsOnDisk : Type 0
RunsOnDisk =
    (kinds : List RuleKind) (defs : List Def) (d : DiskText) (L : ClosedLayer) (b : Block) (typed : IsTypedOver defs (disk_operations d) b)
    (vars args : SymEnv) (from : List SymValue) (first : ℕ) (nodes : List Node) →
    IsTrue (none (definitions_errors defs [] [])) → IsTrue (none (disk_errors d)) → L.functions ≡ functions_of defs →
    EnvShaped nodes vars → EnvShaped nodes args → LowShaped nodes (tables_of d) from →
    let out = sym_whole kinds (sym_functions kinds (reverse defs)) (sym_disk kinds d.kind first) b vars args from nodes in
    IsBank out.nodes → (inputs : Inputs) → InputsFit inputs out.nodes →
    let v = value_of inputs out.nodes in
    Agrees (functions_of defs) typed.scope (plain (worths v vars ++ worths v args)) → (past : Bool) →
    RunIsOnDisk d L b v (picked_by inputs first) vars args from out.value past

-- Where the inputs from a number on are free, a whole run over terms on a disk makes those of its places, and no others: as many as the block has places.
abbrev pub InputsOnDisk : Type 0
InputsOnDisk =
    (kinds : List RuleKind) (defs : List Def) (kind : DiskKind) (b : Block) (vars args : SymEnv) (from : List SymValue) (first : ℕ) (nodes : List Node) →
    InputsBelow first nodes →
    InputsBelow (first + room_of disk_space b) (sym_whole kinds (sym_functions kinds (reverse defs)) (sym_disk kinds kind first) b vars args from nodes).nodes

-- What power leaves, in every environment in which the names have values of the shapes that typing takes them to have: a run over terms that power
-- cuts comes to a stop just where the run on the disk with the picks by place passes a stop that is set. It then leaves what power leaves there, the
-- failure having a pick of its own, and so what some run of the block on the disk leaves that stops there.
pub record FallIsOnDisk (d : DiskText) (L : ClosedLayer) (b : Block) (v : Values) (bits stops : ℕ → Bool) (pick : Bool) (vars args : SymEnv)
    (from : List SymValue) (out : SymFallen (List SymValue)) (past : Bool) : Type 0 where
  pub reached : is_set v out.reached
      ≡ is_some (first_stop stops (placed_run disk_space (disk_acts past d) L b (worths v args) (state_worth v vars (low_worth v (tables_of d) from))
      (picks_from bits 0 (room_of disk_space b))).events (room_of disk_space b))
  pub by_place : (stop : Halt) →
      first_stop stops (placed_run disk_space (disk_acts past d) L b (worths v args) (state_worth v vars (low_worth v (tables_of d) from))
      (picks_from bits 0 (room_of disk_space b))).events (room_of disk_space b) ≡ Some stop →
      falls_by_place disk_space (disk_acts past d) L b (worths v args) (state_worth v vars (low_worth v (tables_of d) from)) stop
      (picks_from bits 0 (room_of disk_space b)) (pick ∷ []) ≡ Some (low_worth v (tables_of d) out.fallen)
  pub run : (stop : Halt) →
      first_stop stops (placed_run disk_space (disk_acts past d) L b (worths v args) (state_worth v vars (low_worth v (tables_of d) from))
      (picks_from bits 0 (room_of disk_space b))).events (room_of disk_space b) ≡ Some stop →
      (picks taken left : Picks) × FallsOn noted_picks (DiskMachine d) L b (worths v args) (state_worth v vars (low_worth v (tables_of d) from)) past stop picks
      (low_worth v (tables_of d) out.fallen) taken left

-- so it is for each block of an implementation without type errors; stops and the pick of the failure have inputs of their own
abbrev pub FallsOnDisk : Type 0
FallsOnDisk =
    (kinds : List RuleKind) (defs : List Def) (d : DiskText) (L : ClosedLayer) (b : Block) (typed : IsTypedOver defs (disk_operations d) b)
    (vars args : SymEnv) (from : List SymValue) (first stop last : ℕ) (nodes : List Node) →
    IsTrue (none (definitions_errors defs [] [])) → IsTrue (none (disk_errors d)) → L.functions ≡ functions_of defs →
    EnvShaped nodes vars → EnvShaped nodes args → LowShaped nodes (tables_of d) from →
    let out = stop_whole kinds (sym_functions kinds (reverse defs)) (sym_disk kinds d.kind first) (disk_stops kinds d.kind stop last) (room_of disk_space b) b
    vars args from from nodes in
    IsBank out.nodes → (inputs : Inputs) → InputsFit inputs out.nodes →
    let v = value_of inputs out.nodes in
    Agrees (functions_of defs) typed.scope (plain (worths v vars ++ worths v args)) → (past : Bool) →
    FallIsOnDisk d L b v (picked_by inputs first) (picked_by inputs stop) (inputs last == 1) vars args from out.value past

-- The same on the specification of another layer: the answer, the variables and its state are worth those of some run of the block on it.
pub record RunIsOnSpec (m L : ClosedLayer) (b : Block) (v : Values) (vars args : SymEnv) (from : List SymValue) (out : SymFinish (List SymValue)) (past : Bool)
    : Type 0 where
  pub places : Picks
  pub by_place : runs_by_place (spec_space m) (spec_acts past m) L b (worths v args) (state_worth v vars (low_worth v m.layer.state from)) places
      ≡ record { answer = answer_worth v out.answer; to = state_worth v out.vars (low_worth v m.layer.state out.to) }
  pub picks : Picks
  pub taken : Picks
  pub left : Picks
  pub run : RunsOn noted_picks (Spec m) L b (worths v args) (state_worth v vars (low_worth v m.layer.state from)) past picks (answer_worth v out.answer)
      (state_worth v out.vars (low_worth v m.layer.state out.to)) taken left

-- so it is for each block without type errors on a layer whose `spec` blocks have none and whose picks are inputs by place
abbrev pub RunsOnSpec : Type 0
RunsOnSpec =
    (kinds : List RuleKind) (defs : List Def) (m L : ClosedLayer) (operations : Named Signature) (b : Block) (typed : IsTypedOver defs operations b)
    (vars args : SymEnv) (from : List SymValue) (first : ℕ) (nodes : List Node) →
    IsTrue (none (definitions_errors defs [] [])) → m.functions ≡ functions_of defs → L.functions ≡ functions_of defs → SpecAnswers m → Sees m operations →
    ((name : Name) (o : Operation) → operation_of m name ≡ Some o → SpecBlock (with_definitions defs []) m o) →
    EnvShaped nodes vars → EnvShaped nodes args → LowShaped nodes m.layer.state from →
    let terms = sym_functions kinds (reverse defs) in
    let out = sym_whole kinds terms (sym_spec kinds terms m (input_pick kinds first)) b vars args from nodes in
    IsBank out.nodes → (inputs : Inputs) → InputsFit inputs out.nodes →
    let v = value_of inputs out.nodes in
    Agrees (functions_of defs) typed.scope (plain (worths v vars ++ worths v args)) → (past : Bool) →
    RunIsOnSpec m L b v vars args from out.value past

-- Where the inputs from a number on are free, such a run makes those of its places, and no others.
abbrev pub InputsOnSpec : Type 0
InputsOnSpec =
    (kinds : List RuleKind) (defs : List Def) (m : ClosedLayer) (b : Block) (vars args : SymEnv) (from : List SymValue) (first : ℕ) (nodes : List Node) →
    InputsBelow first nodes →
    let terms = sym_functions kinds (reverse defs) in
    InputsBelow (first + room_of (spec_space m) b) (sym_whole kinds terms (sym_spec kinds terms m (input_pick kinds first)) b vars args from nodes).nodes
