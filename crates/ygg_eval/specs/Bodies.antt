-- The blocks of a file.
use Rattle.std.specs.Prelude.{◌≡◌, ℕ, IsTrue, List, [], slice_get, option_and_then, Option, Some, None}
use Rattle.std.specs.Option.{option_map}
use Rattle.ygg_value.specs.declared.row.Value.{Value}
use Rattle.ygg_syntax.specs.declared.grammar.BlockKind.{BlockKind}
use Rattle.ygg_syntax.specs.declared.grammar.BlockKind.TheVariants as kind
use Rattle.ygg_syntax.specs.declared.tree.Declared.{Declared}
use Rattle.ygg_syntax.specs.declared.tree.Block.{Block}
use Rattle.ygg_syntax.specs.declared.tree.Operation.{Operation}
use Rattle.ygg_syntax.specs.declared.tree.Tick.{Tick}
use Rattle.ygg_syntax.specs.declared.tree.Layer.{Layer}
use Rattle.ygg_syntax.specs.declared.tree.File.{File}
use Rattle.ygg_meaning_laws.specs.ygg_meaning.Environments.{bind}
use Rattle.ygg_meaning_laws.specs.ygg_meaning.Shapes.{values_fit}
use Rattle.ygg_meaning_laws.specs.ygg_meaning.Layer.{dialogue_of}
use Rattle.ygg_meaning_laws.specs.ygg_meaning.Runs.{Dialogue}
use Rattle.ygg_eval.specs.declared.body.Body.{Body}
use Rattle.ygg_eval.specs.declared.body.Part.{Part}
use Rattle.ygg_eval.specs.declared.body.Part.TheVariants.{Start, Spec, OnCrash, Crash, Format, Impl, Tick as TickPart, Recover}
use Rattle.ygg_eval.specs.Layers.{closed_at}

-- what a block of the part may do: choose, call the machine below, or neither
abbrev pub kind_of : Part → BlockKind
kind_of Start = kind.Plain
kind_of Spec = kind.Spec
kind_of OnCrash = kind.Spec
kind_of Crash = kind.Spec
kind_of Format = kind.Impl
kind_of Impl = kind.Impl
kind_of TickPart = kind.Impl
kind_of Recover = kind.Impl

-- the block of a layer that is meant
abbrev pub block_in : Layer → Part → ℕ → Option Block
block_in l Start number = Some l.start
block_in l Spec number = option_map (λ (o : Operation). o.spec) (slice_get l.operations number)
block_in l OnCrash number = option_and_then (λ (o : Operation). o.on_crash) (slice_get l.operations number)
block_in l Crash number = Some l.crash
block_in l Format number = Some l.format
block_in l Impl number = option_map (λ (o : Operation). o.implementation) (slice_get l.operations number)
block_in l TickPart number = option_map (λ (t : Tick). t.body) (slice_get l.ticks number)
block_in l Recover number = Some l.recover

-- the arguments of a layer's operation
abbrev pub arguments_at : Layer → ℕ → List Declared
arguments_at l number = elim (slice_get l.operations number) [ None ↦ [] | Some o ↦ o.arguments ]

-- the arguments that such a block sees: those of its operation, if it is one's
abbrev pub arguments_in : Layer → Part → ℕ → List Declared
arguments_in l Spec number = arguments_at l number
arguments_in l OnCrash number = arguments_at l number
arguments_in l Impl number = arguments_at l number
arguments_in l Start number = []
arguments_in l Crash number = []
arguments_in l Format number = []
arguments_in l TickPart number = []
arguments_in l Recover number = []

-- the variables that such a block changes: the specification's, or the memory
abbrev pub variables_in : Layer → Part → List Declared
variables_in l Start = l.state
variables_in l Spec = l.state
variables_in l OnCrash = l.state
variables_in l Crash = l.state
variables_in l Format = l.memory
variables_in l Impl = l.memory
variables_in l TickPart = l.memory
variables_in l Recover = l.memory

-- the block is one of the file
pub record IsBlock (file : File) (body : Body) (l : Layer) (b : Block) : Type 0 where
  pub layer : slice_get file.layers body.layer ≡ Some l
  pub block : block_in l body.part body.number ≡ Some b

-- the block exists, and the values have the declared shapes
pub record IsRunnable (file : File) (body : Body) (args variables : List Value) : Type 0 where
  pub layer : Layer
  pub block : Block
  pub is : IsBlock file body layer block
  pub arguments_fit : IsTrue (values_fit (arguments_in layer body.part body.number) args)
  pub variables_fit : IsTrue (values_fit (variables_in layer body.part) variables)

-- what the block asks and how it ends, for each list of answers, where its variables and arguments begin with these values
abbrev pub dialogue_in : File → Body → Layer → Block → List Value → List Value → Dialogue
dialogue_in file body l b args variables =
    dialogue_of (closed_at file body.layer l) b (bind (variables_in l body.part) variables) (bind (arguments_in l body.part body.number) args)
