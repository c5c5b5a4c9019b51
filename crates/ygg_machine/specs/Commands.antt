-- What a command does to a machine: formatting, a call, a background step, waking.
use Rattle.std.specs.Prelude.{◌≡◌, ℕ, ◌≤◌, ◌<◌, List, length, Option, Some, None, slice_get}
use Rattle.ygg_base.specs.Outside.{Rose}
use Rattle.ygg_value.specs.declared.row.Value.{Value}
use Rattle.ygg_syntax.specs.declared.tree.Layer.{Layer}
use Rattle.ygg_syntax.specs.declared.tree.Tick.{Tick}
use Rattle.ygg_syntax.specs.declared.tree.File.{File}
use Rattle.ygg_eval.specs.ygg_disk.Power.{IsNamed}
use Rattle.ygg_eval.specs.ygg_disk.declared.power.Power.{Power}
use Rattle.ygg_eval.specs.ygg_meaning.Environments.{Name}
use Rattle.ygg_eval.specs.ygg_meaning.Progress.{Answer}
use Rattle.ygg_eval.specs.ygg_meaning.Machine.{State, TickName, Machine}
use Rattle.ygg_eval.specs.Lower.{Cause, PowerLoss, GivenUp, Passes, Ending, Whole, Down, Failed, Starved}

-- A command, as what it does to a machine where it is whole, and what it leaves where it is cut, by power or for being given up.
pub record Command (B X : Type 0) : Type 1 where
  pub Does : Machine B X → State B → List X → Answer → State B → Type 0
  pub Leaves : Cause → Machine B X → State B → List X → B → Type 0

module _ {B X : Type 0} where
  -- formatting, which gives no answer, where this is left of one that is cut
  abbrev pub formatting : (Cause → List X → B → Type 0) → Command B X
  formatting Falls = record {
    Does = λ M s notes answer s'. (answer ≡ None) × M.Starts s' notes;
    Leaves = λ cause M s notes fallen. Falls cause notes fallen;
  }

  -- a call of an operation
  abbrev pub calling : Name → List Value → Command B X
  calling name args = record {
    Does = λ M s notes answer s'. M.Calls s name args notes answer s';
    Leaves = λ cause M s notes fallen. M.Falls s name args notes fallen;
  }

  -- a background step, which gives no answer
  abbrev pub ticking : TickName → Command B X
  ticking name = record {
    Does = λ M s notes answer s'. (answer ≡ None) × M.Ticks s name notes s';
    Leaves = λ cause M s notes fallen. M.TickFalls s name notes fallen;
  }

  -- a recovery, from the base alone, which gives no answer
  abbrev pub waking : Command B X
  waking = record {
    Does = λ M s notes answer s'. (answer ≡ None) × M.Wakes s.base notes s';
    Leaves = λ cause M s notes fallen. M.WakeFalls s.base notes fallen;
  }

-- what stands before and after a command: the state, the count of faults, and power
pub record Stage (B : Type 0) : Type 0 where
  pub state : State B
  pub faults : ℕ
  pub power : Power

-- A machine, which by the cause says what a step leaves that is cut, does a command. The last says what notes leave of power: those of a whole command,
-- and those of one that is cut for a cause.
module _ {B X : Type 0} (M : Cause → Machine B X) (command : Command B X) (from to : Stage B) (Left : Option Cause → List X → Type 0) where
  -- it was whole
  pub record Done (answer : Answer) : Type 0 where
    pub notes : List X
    pub does : (cause : Cause) → command.Does (M cause) from.state notes answer to.state
    pub left : Left None notes
    pub passes : Passes from.power to.power

  -- power failed in it, at the call that the fuse names
  pub record Fell : Type 0 where
    pub notes : List X
    pub leaves : command.Leaves PowerLoss (M PowerLoss) from.state notes to.state.base
    pub left : Left (Some PowerLoss) notes
    pub passes : Passes from.power to.power
    pub named : IsNamed to.power

  -- it was given up: its first calls were made, all of them whole but at most the last
  pub record Stopped : Type 0 where
    pub notes : List X
    pub leaves : command.Leaves GivenUp (M GivenUp) from.state notes to.state.base
    pub left : Left (Some GivenUp) notes

  -- what lies below failed, before the fuse's call was reached
  pub record Broke : Type 0 where
    pub stopped : Stopped
    pub rose : Rose from.faults to.faults
    pub passes : Passes from.power to.power
    pub unnamed : ¬ IsNamed to.power

  -- how it ended
  abbrev pub EndedSo : Ending → Type 0
  EndedSo (Whole answer) = Done answer
  EndedSo Down = Fell
  EndedSo Failed = Broke
  EndedSo Starved = Stopped

  -- how it ended, and that the count of faults hasn't fallen
  pub record Ended (ending : Ending) : Type 0 where
    pub so : EndedSo ending
    pub later : from.faults ≤ to.faults

-- the name of a background step by its layer and its place there
pub record IsTickAt (file : File) (place number : ℕ) (name : TickName) : Type 0 where
  pub layer : Layer
  pub there : slice_get file.layers place ≡ Some layer
  pub tick : Tick
  pub is : slice_get layer.ticks number ≡ Some tick
  pub named : name ≡ record { layer = layer.name.text; name = tick.name.text }

-- the file has a layer at the place, and that a background step of the number
abbrev pub HasTick : File → ℕ → ℕ → Type 0
HasTick file place number = (l : Layer) × (slice_get file.layers place ≡ Some l) × (number < length l.ticks)
