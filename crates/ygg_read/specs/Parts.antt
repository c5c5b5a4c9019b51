-- The parts of a file that are read on their own.
use Rattle.std.specs.Prelude.{List, [], ◌∷◌, map}
use Rattle.ygg_base.specs.declared.token.Keyword.TheVariants as word
use Rattle.ygg_syntax.specs.declared.grammar.BlockKind.TheVariants.{Plain, Impl}
use Rattle.ygg_syntax.specs.declared.tree.Name.{Name}
use Rattle.ygg_syntax.specs.declared.tree.Declared.{Declared}
use Rattle.ygg_syntax.specs.declared.tree.Operation.{Operation}
use Rattle.ygg_syntax.specs.Reading.{Reading, in_turn}
use Rattle.ygg_syntax.specs.Blocks.{optional}
use Rattle.ygg_syntax.specs.Files.{variable, operation, crash_block, tick}
use Rattle.ygg_syntax.specs.Pending.{Pending, perhaps, repeated}
use Rattle.ygg_syntax.specs.Pending as pending
use Rattle.ygg_read.specs.declared.operations.OperationBlocks.{OperationBlocks}
use Rattle.ygg_read.specs.declared.layer.LayerSetup.{LayerSetup}
use Rattle.ygg_read.specs.declared.layer.LayerSteps.{LayerSteps}

-- the operation of this name, these arguments and these blocks
abbrev pub operation_of : Name → List Declared → OperationBlocks → Operation
operation_of x arguments b = record {
  name = x;
  arguments = arguments;
  answer = b.answer;
  spec = b.spec;
  on_crash = b.on_crash;
  implementation =
      b.implementation;
}

-- the variables of a layer and the blocks that set them up
abbrev pub setup_pending : List Pending
setup_pending = repeated pending.state_variable ∷ perhaps pending.start_block ∷ repeated pending.memory_variable ∷ perhaps pending.format_block ∷ []

-- what they read
abbrev pub setup_read : LayerSetup → List Reading
setup_read s =
    in_turn (map (variable word.State) s.state) ∷ optional word.Start Plain s.start
    ∷ in_turn (map (variable word.Memory) s.memory) ∷ optional word.Format Impl s.format ∷ []

-- a layer from its operations on up to its relation
abbrev pub steps_pending : List Pending
steps_pending = repeated pending.operation ∷ perhaps pending.crash_block ∷ repeated pending.tick ∷ perhaps pending.recover_block ∷ []

-- what that reads
abbrev pub steps_read : LayerSteps → List Reading
steps_read s = in_turn (map operation s.operations) ∷ crash_block s.crash_place s.crash ∷ in_turn (map tick s.ticks) ∷ optional word.Recover Impl s.recover ∷ []
