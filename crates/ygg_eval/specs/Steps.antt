-- A run of a block that calls a machine below, as a run on the machine whose steps those calls are.
use Rattle.std.specs.Prelude.{◌≡◌, ℕ, IsTrue, List, length, take, Option, Some, None, Result, Ok, Err}
use Rattle.ygg_base.specs.Outside.{Rose}
use Rattle.ygg_list.specs.declared.memory.NoMemory.{NoMemory}
use Rattle.ygg_value.specs.declared.row.Value.{Value}
use Rattle.ygg_syntax.specs.declared.grammar.BlockKind.TheVariants as kind
use Rattle.ygg_syntax.specs.declared.tree.Declared.{Declared}
use Rattle.ygg_syntax.specs.declared.tree.File.{File}
use Rattle.ygg_eval.specs.ygg_disk.Power.{IsNamed}
use Rattle.ygg_eval.specs.ygg_meaning.Environments.{Env, bind}
use Rattle.ygg_eval.specs.ygg_meaning.Shapes.{values_fit}
use Rattle.ygg_eval.specs.ygg_meaning.Progress.{Answer}
use Rattle.ygg_eval.specs.ygg_meaning.Runs.{Dialogue, WholeRun, FallenRun}
use Rattle.ygg_eval.specs.declared.body.Stop.{Stop}
use Rattle.ygg_eval.specs.Lower.{Standing, Meaning, Cause, PowerLoss, GivenUp, Passes, GoesOn}
use Rattle.ygg_eval.specs.Runs.{RunEnds}
use Rattle.ygg_eval.specs.declared.run.Ended.{Ended}
use Rattle.ygg_eval.specs.declared.run.Ended.TheVariants.{Whole, Stopped, Short, Down, Failed}

module _ {S : Type 0} (M : Meaning S) (file : File) (number : ℕ) (block : Dialogue) (variables : List Declared) (values values' : List Value)
    (from to : Standing S) where
  -- the block came to its end: a whole run on the machine, which leaves the variables these values
  pub record RunsWhole (answer : Answer) : Type 0 where
    pub notes : List M.behavior.Note
    pub env : Env
    pub run : (cause : Cause) → WholeRun (M.behavior.machine cause file number) block (M.behavior.state file from.machine) notes env answer
        (M.behavior.state file to.machine)
    pub leaves : M.behavior.Leaves None file from notes to
    pub passes : Passes from.power to.power
    pub variables_are : bind variables values' ≡ take (length values) env
    pub fit : IsTrue (values_fit variables values')

  -- power failed: a fall of the block on the machine
  pub record RunsDown : Type 0 where
    pub notes : List M.behavior.Note
    pub run : FallenRun (M.behavior.machine PowerLoss file number) block (M.behavior.state file from.machine) notes (M.behavior.state file to.machine).base
    pub leaves : M.behavior.Leaves (Some PowerLoss) file from notes to

  -- the run was given up: the block's first calls were made, all of them whole but at most the last
  pub record RunsInPart : Type 0 where
    pub notes : List M.behavior.Note
    pub run : FallenRun (M.behavior.machine GivenUp file number) block (M.behavior.state file from.machine) notes (M.behavior.state file to.machine).base
    pub leaves : M.behavior.Leaves (Some GivenUp) file from notes to

  -- what of the machine's steps a run is, by how it ended
  abbrev pub RunSteps : Result Ended NoMemory → Type 0
  RunSteps (Ok (Whole answer)) = RunsWhole answer
  RunSteps (Ok Short) = (answer : Answer) × RunsWhole answer
  RunSteps (Ok Stopped) = RunsDown
  RunSteps (Ok Down) = RunsDown × Passes from.power to.power × IsNamed to.power
  RunSteps (Ok Failed) = RunsInPart × Passes from.power to.power × ¬ IsNamed to.power × Rose (M.faults from.machine) (M.faults to.machine)
  RunSteps (Err e) = RunsInPart

-- A run of a block that makes no choice is one on the machine whose steps the calls are, however it ends. The machine below keeps its number,
-- and its count of faults doesn't fall.
abbrev pub RunsAreSteps : {S : Type 0} → Meaning S → Type 0
RunsAreSteps {S} M =
    (file : File) (number : ℕ) (block : Dialogue) (variables : List Declared) (values values' : List Value) (stop : Option Stop)
    (result : Result Ended NoMemory) (from to : Standing S) → M.number from.machine ≡ number →
    RunEnds M file kind.Impl number block from variables values stop result values' to →
    GoesOn M file from to × RunSteps M file number block variables values values' from to result
