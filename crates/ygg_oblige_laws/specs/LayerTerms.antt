-- What typing says of a layer whose obligations are made.
use Rattle.std.specs.Prelude.{◌≡◌, ◌++◌, IsTrue, List, [], All, Some, option_map}
use Rattle.ygg_value.specs.Shapes.{IsShape}
use Rattle.ygg_value.specs.declared.shape.Shape.TheVariants.{Word}
use Rattle.ygg_syntax.specs.declared.grammar.BlockKind.TheVariants.{Impl}
use Rattle.ygg_syntax.specs.declared.tree.Declared.{Declared}
use Rattle.ygg_syntax.specs.declared.tree.Def.{Def}
use Rattle.ygg_syntax.specs.declared.tree.Expr.{Expr}
use Rattle.ygg_syntax.specs.declared.tree.Operation.{Operation}
use Rattle.ygg_syntax.specs.declared.tree.Tick.{Tick}
use Rattle.ygg_sym_laws.specs.ygg_type_rules.Shapes.{answer_shape}
use Rattle.ygg_sym_laws.specs.ygg_type_rules.TypeErrors.{none}
use Rattle.ygg_sym_laws.specs.ygg_type_rules.Scopes.{Scope}
use Rattle.ygg_sym_laws.specs.ygg_type_rules.Expressions.{typing}
use Rattle.ygg_sym_laws.specs.ygg_type_rules.Definitions.{definitions_errors, with_definitions}
use Rattle.ygg_sym_laws.specs.ygg_meaning.Environments.{Env}
use Rattle.ygg_sym_laws.specs.ygg_meaning.Meaning.{functions_of}
use Rattle.ygg_sym_laws.specs.ygg_meaning.Shapes.{shape_in, env_fits}
use Rattle.ygg_sym_laws.specs.ygg_meaning.Layer.{ClosedLayer}
use Rattle.ygg_sym_laws.specs.ygg_meaning.Refines.{Below}
use Rattle.ygg_sym_laws.specs.ygg_meaning.Related.{relations}
use Rattle.ygg_sym_laws.specs.ygg_meaning_laws.Agrees.{Agrees}
use Rattle.ygg_sym_laws.specs.Below.{lows_on, signatures_on}
use Rattle.ygg_sym_laws.specs.Typed.{BlockTyped, BelowTyped, SpecTyped, OperationTyped, AnswersAs}

-- A formula over names of these shapes and, behind `low`, of these, in a scope in which it has no type error and with which all such values agree: it is
-- a word of one digit.
pub record FormulaTyped (defs : List Def) (L : ClosedLayer) (own low : List Declared) (e : Expr) : Type 0 where
  pub scope : Scope
  pub defs_is : scope.defs ≡ with_definitions defs []
  pub without_errors : IsTrue (none (typing e scope).type_errors)
  pub digit : (typing e scope).part.shape ≡ Some (Word 1)
  pub agrees : (names behind : Env) → IsTrue (env_fits own names) → IsTrue (env_fits low behind) →
      Agrees L.functions scope (record { own = names; low = behind })

-- the declared shapes keep the limits
abbrev pub ShapesKept : List Declared → Type 0
ShapesKept = All (λ (d : Declared). IsShape (shape_in d.shape))

-- an operation: its implementation over what the layer is specified over, its specification, and answers of one shape, that of its answer's type
pub record OperationFits (defs : List Def) (G : Below) (L : ClosedLayer) (o : Operation) : Type 0 where
  pub shapes : ShapesKept o.arguments
  pub answer_shaped : answer_shape o.answer ≡ option_map shape_in o.answer
  pub implementation : BlockTyped defs L Impl (signatures_on G) o.implementation L.layer.memory o.arguments
  pub answers : AnswersAs o o.implementation implementation.shape
  pub spec : OperationTyped defs L o

-- a layer without a type error on what it is specified over
pub record LayerTyped (defs : List Def) (G : Below) (L : ClosedLayer) : Type 0 where
  pub definitions : IsTrue (none (definitions_errors defs [] []))
  pub functions : L.functions ≡ functions_of defs
  pub below : BelowTyped defs G
  pub low_is : L.low ≡ lows_on G
  pub own : SpecTyped defs L
  pub state_shapes : ShapesKept L.layer.state
  pub memory_shapes : ShapesKept L.layer.memory
  pub low_shapes : ShapesKept L.low
  pub relations_typed : All (FormulaTyped defs L (L.layer.state ++ L.layer.memory) L.low) (relations L)
  pub settled_typed : All (FormulaTyped defs L [] L.low) L.layer.settled
  pub format_typed : BlockTyped defs L Impl (signatures_on G) L.layer.format L.layer.memory []
  pub recover_typed : BlockTyped defs L Impl (signatures_on G) L.layer.recover L.layer.memory []
  pub operations_typed : All (OperationFits defs G L) L.layer.operations
  pub ticks_typed : All (λ (t : Tick). BlockTyped defs L Impl (signatures_on G) t.body L.layer.memory []) L.layer.ticks
