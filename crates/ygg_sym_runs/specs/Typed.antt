-- What typing says of a layer and of what it is specified over.
use Rattle.std.specs.Prelude.{◌≡◌, ◌++◌, IsTrue, List, [], All, Option, Some}
use Rattle.ygg_value.specs.declared.row.Value.{Value}
use Rattle.ygg_value.specs.declared.shape.Shape.{Shape}
use Rattle.ygg_value.specs.Shapes.{IsShape}
use Rattle.ygg_syntax.specs.declared.grammar.BlockKind.{BlockKind}
use Rattle.ygg_syntax.specs.declared.grammar.BlockKind.TheVariants.{Spec}
use Rattle.ygg_syntax.specs.declared.tree.Declared.{Declared}
use Rattle.ygg_syntax.specs.declared.tree.Def.{Def}
use Rattle.ygg_syntax.specs.declared.tree.Block.{Block}
use Rattle.ygg_syntax.specs.declared.tree.Operation.{Operation}
use Rattle.ygg_sym_runs.specs.ygg_type_rules.Names.{Named}
use Rattle.ygg_sym_runs.specs.ygg_type_rules.declared.scope.Signature.{Signature}
use Rattle.ygg_sym_runs.specs.ygg_type_rules.TypeErrors.{none}
use Rattle.ygg_sym_runs.specs.ygg_type_rules.Scopes.{Scope}
use Rattle.ygg_sym_runs.specs.ygg_type_rules.Statements.{block_errors}
use Rattle.ygg_sym_runs.specs.ygg_type_rules.Definitions.{with_definitions}
use Rattle.ygg_sym_runs.specs.ygg_type_rules.Layers.{operation_signature}
use Rattle.ygg_sym_runs.specs.ygg_type_rules.Files.{disk_errors}
use Rattle.ygg_sym_runs.specs.ygg_meaning.Environments.{Name, bind}
use Rattle.ygg_sym_runs.specs.ygg_meaning.Meaning.{functions_of}
use Rattle.ygg_sym_runs.specs.ygg_meaning.Shapes.{shape_in, values_fit}
use Rattle.ygg_sym_runs.specs.ygg_meaning.Progress.{Answer}
use Rattle.ygg_sym_runs.specs.ygg_meaning.Layer.{ClosedLayer, operation_of}
use Rattle.ygg_sym_runs.specs.ygg_meaning.Refines.{Below, OnDisk, OnSpec}
use Rattle.ygg_sym_runs.specs.ygg_meaning_laws.Agrees.{Agrees}
use Rattle.ygg_sym_runs.specs.Kinds.{keeps}
use Rattle.ygg_sym_runs.specs.Questions.{plain, gives}
use Rattle.ygg_sym_runs.specs.Blocks.{is_returned}
use Rattle.ygg_sym_runs.specs.Machines.{SpecAnswers}
use Rattle.ygg_sym_runs.specs.DirectLaws.{Sees}
use Rattle.ygg_sym_runs.specs.Specs.{SpecBlock}
use Rattle.ygg_sym_runs.specs.Below.{signatures_of}

-- A block of a kind over operations below, in a scope of the file's definitions in which it has no type error and with which all values of the
-- declared variables and arguments agree.
pub record BlockTyped (defs : List Def) (L : ClosedLayer) (kind : BlockKind) (lower : Named Signature) (b : Block) (vars args : List Declared)
    : Type 0 where
  pub scope : Scope
  pub shape : Option Shape
  pub lower_is : scope.lower ≡ lower
  pub defs_is : scope.defs ≡ with_definitions defs []
  pub without_errors : IsTrue (none (block_errors b shape scope))
  pub kept : IsTrue (keeps kind b)
  pub agrees : (xs ys : List Value) → IsTrue (values_fit vars xs) → IsTrue (values_fit args ys) →
      Agrees L.functions scope (plain (bind vars xs ++ bind args ys))

-- a block of a layer's own specification without a type error; it sees no operations below
pub record SpecBlockTyped (defs : List Def) (m : ClosedLayer) (b : Block) (args : List Declared) : Type 0 where
  pub lower : Named Signature
  pub block : BlockTyped defs m Spec lower b m.layer.state args

-- the answer of a block that has one has the shape of the operation's answer
abbrev pub AnswersAs : Operation → Block → Option Shape → Type 0
AnswersAs o b shape = (a : Answer) → IsTrue (is_returned b.answer shape a) → IsTrue (gives (operation_signature o) a)

-- the blocks of an operation's specification
pub record OperationTyped (defs : List Def) (m : ClosedLayer) (o : Operation) : Type 0 where
  pub spec : SpecBlockTyped defs m o.spec o.arguments
  pub answers : AnswersAs o o.spec spec.block.shape
  pub on_crash : (b : Block) → o.on_crash ≡ Some b → SpecBlockTyped defs m b o.arguments

-- a specification without a type error, which answers whatever it is asked
pub record SpecTyped (defs : List Def) (m : ClosedLayer) : Type 0 where
  pub functions : m.functions ≡ functions_of defs
  pub limits : All (λ (d : Declared). IsShape (shape_in d.shape)) m.layer.state
  pub answers : SpecAnswers m
  pub sees : Sees m (signatures_of m.layer.operations)
  pub start : SpecBlockTyped defs m m.layer.start []
  pub crash : SpecBlockTyped defs m m.layer.crash []
  pub operations : (name : Name) (o : Operation) → operation_of m name ≡ Some o → OperationTyped defs m o
  pub blocks : (name : Name) (o : Operation) → operation_of m name ≡ Some o → SpecBlock (with_definitions defs []) m o

-- what a layer is specified over, without a type error
abbrev pub BelowTyped : List Def → Below → Type 0
BelowTyped defs (OnDisk d) = IsTrue (none (disk_errors d))
BelowTyped defs (OnSpec m) = SpecTyped defs m
