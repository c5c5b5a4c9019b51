-- A layer on a machine below.
use Rattle.std.specs.Prelude.{◌≡◌, ℕ, zero, suc, false, IsTrue, List, [], slice_get, ◌⊎◌, Some, None, Result, Ok, Err}
use Rattle.ygg_list.specs.declared.memory.NoMemory.{NoMemory}
use Rattle.ygg_value.specs.declared.row.Value.{Value}
use Rattle.ygg_syntax.specs.declared.grammar.BlockKind.TheVariants as kind
use Rattle.ygg_syntax.specs.declared.tree.Block.{Block}
use Rattle.ygg_syntax.specs.declared.tree.Declared.{Declared}
use Rattle.ygg_syntax.specs.declared.tree.Layer.{Layer}
use Rattle.ygg_syntax.specs.declared.tree.Operation.{Operation}
use Rattle.ygg_syntax.specs.declared.tree.File.{File}
use Rattle.ygg_eval.specs.ygg_meaning.Environments.{Name, Env, bind}
use Rattle.ygg_eval.specs.ygg_meaning.Shapes.{values_fit}
use Rattle.ygg_eval.specs.ygg_meaning.Machine.{on, Machine}
use Rattle.ygg_eval.specs.ygg_meaning.Layer.{FallsBelow, Layered, operation_of, dialogue_of}
use Rattle.ygg_eval.specs.Layers.{closed_at}
use Rattle.ygg_eval.specs.Lower.{Standing, Behavior, Meaning, Cause, Ending, Whole, Down, Failed, Starved}
use Rattle.ygg_eval.specs.Runs.{RunEnds}
use Rattle.ygg_eval.specs.declared.run.Ended.{Ended}
use Rattle.ygg_eval.specs.declared.run.Ended.TheVariants as ended
use Rattle.ygg_eval.specs.declared.body.Part.{Part}
use Rattle.ygg_eval.specs.declared.body.Part.TheVariants as part
use Rattle.ygg_eval.specs.Zeros.{zero_values}

-- the values of a layer's memory, and the machine below
pub record Raised (S : Type 0) : Type 0 where
  pub memory : List Value
  pub below : S

-- the machine below, with the same power
abbrev pub lower_of : {S : Type 0} → Standing (Raised S) → Standing S
lower_of at = record { machine = at.machine.below; power = at.power }

-- the memory variables of the layer at a place
abbrev pub memory_at : File → ℕ → List Declared
memory_at file place = elim (slice_get file.layers place) [ None ↦ [] | Some l ↦ l.memory ]

-- what has no layer: nothing happens to it but that power is lost below
abbrev pub idle_on : {B X : Type 0} → Machine B X → Machine B X
idle_on M = record {
  Starts = λ s notes. ⊥;
  Calls = λ s name args notes answer s'. ⊥;
  Falls = λ s name args notes fallen. ⊥;
  Ticks = λ s name notes s'. ⊥;
  TickFalls = λ s name notes fallen. ⊥;
  Loses = λ s notes fallen. FallsBelow s (λ lower. M.Loses lower notes fallen);
  Wakes = λ fallen notes s. ⊥;
  WakeFalls = λ fallen notes fallen'. ⊥;
}

-- the layer at a place on a machine
abbrev pub layer_over : {B X : Type 0} → File → ℕ → Machine B X → Machine B X
layer_over file place M = elim (slice_get file.layers place) [ None ↦ idle_on M | Some l ↦ Layered (closed_at file place l) M ]

-- how a run of a block ended that isn't to be stopped, as the call that it is
abbrev pub EndsAs : Ending → Result Ended NoMemory → Type 0
EndsAs (Whole answer) result = result ≡ Ok (ended.Whole answer)
EndsAs Down result = result ≡ Ok ended.Down
EndsAs Failed result = result ≡ Ok ended.Failed
EndsAs Starved result = (none : NoMemory) × (result ≡ Err none)

-- as which call such a run ended; one with a stop isn't meant
abbrev pub run_ending : Result Ended NoMemory → Ending
run_ending (Ok (ended.Whole answer)) = Whole answer
run_ending (Ok ended.Stopped) = Starved
run_ending (Ok ended.Short) = Starved
run_ending (Ok ended.Down) = Down
run_ending (Ok ended.Failed) = Failed
run_ending (Err none) = Starved

-- how a command ends that gives no answer
abbrev pub silent : Ending → Ending
silent (Whole answer) = Whole None
silent Down = Down
silent Failed = Failed
silent Starved = Starved

-- it was whole
abbrev pub IsWhole : Ending → Type 0
IsWhole (Whole answer) = Unit {0}
IsWhole Down = ⊥
IsWhole Failed = ⊥
IsWhole Starved = ⊥

-- it was cut
abbrev pub IsCut : Ending → Type 0
IsCut (Whole answer) = ⊥
IsCut Down = Unit {0}
IsCut Failed = Unit {0}
IsCut Starved = Unit {0}

-- a block that is run from memory of zeros
abbrev pub IsFirst : Part → Type 0
IsFirst p = (p ≡ part.Format) ⊎ (p ≡ part.Recover)

-- a layer whose memory is zeros
abbrev pub zeroed : {S : Type 0} → List Declared → Standing (Raised S) → Standing (Raised S)
zeroed declared at = record { machine = record { memory = zero_values declared; below = at.machine.below }; power = at.power }

module _ {S : Type 0} (M : Meaning S) where
  -- the layer's place in its file, counted from 0: as many machines as layers stand below it
  abbrev pub place_of : Raised S → ℕ
  place_of s = M.number s.below

  -- a block of the layer, with these arguments, was run on the machine below
  pub record RunsOn (file : File) (l : Layer) (b : Block) (args : Env) (from : Standing (Raised S)) (ending : Ending) (to : Standing (Raised S)) : Type
      0 where
    pub fit : IsTrue (values_fit l.memory from.machine.memory)
    pub result : Result Ended NoMemory
    pub ends_as : EndsAs ending result
    pub run : RunEnds M file kind.Impl (place_of from.machine)
        (dialogue_of (closed_at file (place_of from.machine) l) b (bind l.memory from.machine.memory) args) (lower_of from) l.memory from.machine.memory
        None result to.machine.memory (lower_of to)

  -- a block without arguments was run, whose answer, if it gives one, is not looked at
  abbrev pub RunsSilently : File → Layer → Block → Standing (Raised S) → Ending → Standing (Raised S) → Type 0
  RunsSilently file l b from ending to = (e : Ending) × (ending ≡ silent e) × RunsOn file l b [] from e to

  -- the same from memory of zeros; or no memory was left for the zeros, and nothing happened
  abbrev pub Begins : File → Layer → Block → Standing (Raised S) → Ending → Standing (Raised S) → Type 0
  Begins file l b from ending to = RunsSilently file l b (zeroed l.memory from) ending to ⊎ ((ending ≡ Starved) × (to ≡ from))

  -- an operation of the layer was called, and its implementation ended so
  pub record CallsFloor (file : File) (from : Standing (Raised S)) (name : Name) (args : List Value) (ending : Ending) (to : Standing (Raised S)) : Type
      0 where
    pub layer : Layer
    pub there : slice_get file.layers (place_of from.machine) ≡ Some layer
    pub operation : Operation
    pub is : operation_of (closed_at file (place_of from.machine) layer) name ≡ Some operation
    pub arguments_fit : IsTrue (values_fit operation.arguments args)
    pub run : RunsOn file layer operation.implementation (bind operation.arguments args) from ending to

  -- the file has the layer, the memory has its shapes, and so has what is below
  pub record FitsFloor (file : File) (s : Raised S) : Type 0 where
    pub layer : Layer
    pub there : slice_get file.layers (place_of s) ≡ Some layer
    pub memory : IsTrue (values_fit layer.memory s.memory)
    pub below : M.Fits file s.below

  -- the layer on the machine that the steps below are of
  abbrev pub floor_machine : Cause → File → ℕ → Machine M.behavior.Base M.behavior.Note
  floor_machine cause file zero = M.behavior.machine cause file zero
  floor_machine cause file (suc place) = layer_over file place (M.behavior.machine cause file place)

  -- its steps
  abbrev pub floor_behavior : Behavior (Raised S)
  floor_behavior = record {
    Base = M.behavior.Base;
    Note = M.behavior.Note;
    machine = floor_machine;
    state = λ file s. on (bind (memory_at file (place_of s)) s.memory) (M.behavior.state file s.below);
    Leaves = λ how file from notes to. M.behavior.Leaves how file (lower_of from) notes (lower_of to);
  }

  -- a layer on the machine below. It can't be stopped: its falls come by the fuse
  abbrev pub floor_meaning : Meaning (Raised S)
  floor_meaning = record {
    number = λ s. suc (place_of s);
    Fits = FitsFloor;
    can_stop = false;
    can_lose = M.can_lose;
    faults = λ s. M.faults s.below;
    Calls = CallsFloor;
    Falls = λ file from name args outage to. ⊥;
    Loses = λ file from outage to. ⊥;
    behavior = floor_behavior;
  }
