-- What a machine does on which blocks are run.
use Rattle.std.specs.Prelude.{◌≡◌, ℕ, ◌≤◌, Bool, true, false, IsTrue, IsSome, List, [], ◌++◌, slice_get, Option, Some, None, Result, Ok, Err}
use Rattle.ygg_base.specs.Outside.{Rose}
use Rattle.ygg_list.specs.declared.memory.NoMemory.{NoMemory}
use Rattle.ygg_value.specs.declared.row.Value.{Value}
use Rattle.ygg_syntax.specs.declared.tree.File.{File}
use Rattle.ygg_meaning_laws.specs.ygg_type_rules.Names.{Named}
use Rattle.ygg_meaning_laws.specs.ygg_type_rules.declared.scope.Signature.{Signature}
use Rattle.ygg_meaning_laws.specs.ygg_disk.Power.{IsNamed}
use Rattle.ygg_meaning_laws.specs.ygg_disk.declared.power.Fuse.{Fuse}
use Rattle.ygg_meaning_laws.specs.ygg_disk.declared.power.Power.{Power}
use Rattle.ygg_meaning_laws.specs.ygg_disk.declared.turn.Turn.{Turn}
use Rattle.ygg_meaning_laws.specs.ygg_disk.declared.turn.Turn.TheVariants as turn
use Rattle.ygg_meaning_laws.specs.ygg_meaning.Environments.{Name}
use Rattle.ygg_meaning_laws.specs.ygg_meaning.Progress.{Answer}
use Rattle.ygg_meaning_laws.specs.ygg_meaning.Machine.{State, Machine}
use Rattle.ygg_meaning_laws.specs.Fitting.{all_fit}
use Rattle.ygg_meaning_laws.specs.Questions.{gives}

-- a machine in a state, and what it is told of power
pub record Standing (S : Type 0) : Type 0 where
  pub machine : S
  pub power : Power

-- how a call of an operation ended
pub data Ending : Type 0 where
  -- it was whole, with this answer
  Whole : (answer : Answer) → Ending
  -- power failed before it or within it
  Down : Ending
  -- what lies below failed
  Failed : Ending
  -- no memory was left
  Starved : Ending

-- how a call ended that answered this
abbrev pub ending_of : Result Turn NoMemory → Ending
ending_of (Ok turn.Done) = Whole None
ending_of (Ok (turn.Answer v)) = Whole (Some v)
ending_of (Ok turn.Down) = Down
ending_of (Ok turn.Failed) = Failed
ending_of (Err e) = Starved

-- how it ended that power was to be made to fail
pub data Outage : Type 0 where
  -- it failed
  Happened : Outage
  -- no memory was left for that
  Lacking : Outage

-- how that ended which answered this
abbrev pub outage_of : Result (Unit {0}) NoMemory → Outage
outage_of (Ok u) = Happened
outage_of (Err e) = Lacking

-- why a step of a machine isn't whole
pub data Cause : Type 0 where
  -- power failed
  PowerLoss : Cause
  -- what lies below failed, or no memory was left, and the machine is given up
  GivenUp : Cause

-- The machine whose steps the calls are, over bases and notes of its own.
pub record Behavior (S : Type 0) : Type 1 where
  pub Base : Type 0
  pub Note : Type 0
  -- the machine with this number of a file: by the cause a fall is what power loss leaves, or what is done of a step that is given up
  pub machine : Cause → File → ℕ → Machine Base Note
  -- its state
  pub state : File → S → State Base
  -- what steps with these notes leave of power: whole ones, or ones of which the last was cut for this cause
  pub Leaves : Option Cause → File → Standing S → List Note → Standing S → Type 0

-- what a machine of the states S means to the layer above it
pub record Meaning (S : Type 0) : Type 1 where
  -- its number in a file: 0 of the disk, and that of a layer, counted from 1
  pub number : S → ℕ
  -- the file has a machine of this number, and the values that it keeps have the shapes that are declared there
  pub Fits : File → S → Type 0
  -- whether it can be stopped: its operations can be made to fall, and it to lose power
  pub can_stop : Bool
  -- whether it may be handed a fuse
  pub can_lose : Bool
  -- how many faults there were in it and below it
  pub faults : S → ℕ
  -- a call of an operation, by its name and arguments, and how it ended
  pub Calls : File → Standing S → Name → List Value → Ending → Standing S → Type 0
  -- an operation that was to be made to fall, and how that ended
  pub Falls : File → Standing S → Name → List Value → Outage → Standing S → Type 0
  -- power loss that was to come between operations, and how that ended
  pub Loses : File → Standing S → Outage → Standing S → Type 0
  -- the machine whose steps these are
  pub behavior : Behavior S

-- the operation at this place, and arguments of its shapes
pub record IsCallable (operations : Named Signature) (place : ℕ) (args : List Value) : Type 0 where
  pub name : Name
  pub operation : Signature
  pub is : slice_get operations place ≡ Some (name, operation)
  pub fit : IsTrue (all_fit operation.arguments args)

-- a whole call gives what its operation gives
abbrev pub GivesWhole : Signature → Ending → Type 0
GivesWhole o (Whole answer) = IsTrue (gives o answer)
GivesWhole o Down = Unit {0}
GivesWhole o Failed = Unit {0}
GivesWhole o Starved = Unit {0}

-- a fact that a whole call leaves
abbrev pub AfterWhole : Ending → Type 0 → Type 0
AfterWhole (Whole answer) P = P
AfterWhole Down P = Unit {0}
AfterWhole Failed P = Unit {0}
AfterWhole Starved P = Unit {0}

-- the operation at this place was called with these arguments, and ended so
pub record Called {S : Type 0} (M : Meaning S) (file : File) (operations : Named Signature) (place : ℕ) (args : List Value) (ending : Ending)
    (from to : Standing S) : Type 0 where
  pub name : Name
  pub operation : Signature
  pub is : slice_get operations place ≡ Some (name, operation)
  pub gives : GivesWhole operation ending
  pub step : M.Calls file from name args ending to

-- the operation at this place was to be made to fall, and that ended so
pub record Fell {S : Type 0} (M : Meaning S) (file : File) (operations : Named Signature) (place : ℕ) (args : List Value) (outage : Outage)
    (from to : Standing S) : Type 0 where
  pub name : Name
  pub operation : Signature
  pub is : slice_get operations place ≡ Some (name, operation)
  pub step : M.Falls file from name args outage to

-- It is the machine of this number, which keeps values of the declared shapes. A fuse is there only where it can lose power.
pub record Serves {S : Type 0} (M : Meaning S) (file : File) (number : ℕ) (at : Standing S) : Type 0 where
  pub numbered : M.number at.machine ≡ number
  pub fits : M.Fits file at.machine
  pub fuse : IsSome at.power.fuse → IsTrue M.can_lose

-- power after steps: the fuse stays, the count of whole disk calls never falls, and a fuse whose call was still to come isn't passed by
pub record Passes (before after : Power) : Type 0 where
  pub fuse : after.fuse ≡ before.fuse
  pub later : before.passed ≤ after.passed
  pub unreached : (f : Fuse) → before.fuse ≡ Some f → before.passed ≤ f.call → after.passed ≤ f.call

-- `Down` comes exactly where the fuse's call is reached: it is then the call that comes next, and else no call that the fuse names was begun
abbrev pub EndsAtFuse : Ending → Power → Power → Type 0
EndsAtFuse (Whole answer) before after = Passes before after
EndsAtFuse Down before after = Passes before after × IsNamed after
EndsAtFuse Failed before after = Passes before after × ¬ IsNamed after
EndsAtFuse Starved before after = Unit {0}

-- a fall of a machine within an operation, or a loss before it began
abbrev pub FallsOrLoses : {B X : Type 0} → Bool → Machine B X → State B → Name → List Value → List X → B → Type 0
FallsOrLoses true N s name args notes fallen = N.Falls s name args notes fallen
FallsOrLoses false N s name args notes fallen = N.Loses s notes fallen

module _ {S : Type 0} (M : Meaning S) (file : File) (from to : Standing S) where
  -- the machine with the number that it had
  abbrev pub machine_of : Cause → Machine M.behavior.Base M.behavior.Note
  machine_of cause = M.behavior.machine cause file (M.number from.machine)

  -- the state before
  abbrev pub state_before : State M.behavior.Base
  state_before = M.behavior.state file from.machine

  -- the state after
  abbrev pub state_after : State M.behavior.Base
  state_after = M.behavior.state file to.machine

  -- a whole operation is a step of the machine
  pub record StepsWhole (name : Name) (args : List Value) (answer : Answer) : Type 0 where
    pub notes : List M.behavior.Note
    pub step : (cause : Cause) → (machine_of cause).Calls state_before name args notes answer state_after
    pub leaves : M.behavior.Leaves None file from notes to

  -- power failed within an operation, or before it began
  pub record StepsDown (name : Name) (args : List Value) : Type 0 where
    pub notes : List M.behavior.Note
    pub within : Bool
    pub step : FallsOrLoses within (machine_of PowerLoss) state_before name args notes state_after.base
    pub leaves : M.behavior.Leaves (Some PowerLoss) file from notes to

  -- an operation was given up: the first of its steps were made, all of them whole but at most the last
  pub record StepsInPart (name : Name) (args : List Value) : Type 0 where
    pub notes : List M.behavior.Note
    pub within : Bool
    pub step : FallsOrLoses within (machine_of GivenUp) state_before name args notes state_after.base
    pub leaves : M.behavior.Leaves (Some GivenUp) file from notes to

  -- power loss between operations is a step of the machine
  pub record StepsLost : Type 0 where
    pub notes : List M.behavior.Note
    pub step : (machine_of PowerLoss).Loses state_before notes state_after.base
    pub leaves : M.behavior.Leaves (Some PowerLoss) file from notes to

  -- it was given up between operations
  pub record StepsGivenUp : Type 0 where
    pub notes : List M.behavior.Note
    pub step : (machine_of GivenUp).Loses state_before notes state_after.base
    pub leaves : M.behavior.Leaves (Some GivenUp) file from notes to

  -- what of the machine's steps a call is, by how it ended
  abbrev pub CallSteps : Name → List Value → Ending → Type 0
  CallSteps name args (Whole answer) = StepsWhole name args answer
  CallSteps name args Down = StepsDown name args
  CallSteps name args Failed = StepsInPart name args × Rose (M.faults from.machine) (M.faults to.machine)
  CallSteps name args Starved = StepsInPart name args

  -- the same of an operation that was to be made to fall
  abbrev pub FallSteps : Name → List Value → Outage → Type 0
  FallSteps name args Happened = StepsDown name args
  FallSteps name args Lacking = StepsInPart name args

  -- and of power loss that was to come between operations
  abbrev pub LossSteps : Outage → Type 0
  LossSteps Happened = StepsLost
  LossSteps Lacking = StepsGivenUp

  -- it is the machine of its number still, and its count of faults hasn't fallen
  pub record GoesOn : Type 0 where
    pub number : M.number to.machine ≡ M.number from.machine
    pub later : M.faults from.machine ≤ M.faults to.machine

  -- a call keeps what a machine below a layer keeps
  pub record KeepsInCall (name : Name) (args : List Value) (ending : Ending) : Type 0 where
    pub goes_on : GoesOn
    pub steps : CallSteps name args ending
    pub power : EndsAtFuse ending from.power to.power

  -- an operation that was to be made to fall does
  pub record KeepsInFall (name : Name) (args : List Value) (outage : Outage) : Type 0 where
    pub goes_on : GoesOn
    pub steps : FallSteps name args outage

  -- power loss that was to come between operations does
  pub record KeepsInLoss (outage : Outage) : Type 0 where
    pub goes_on : GoesOn
    pub steps : LossSteps outage

-- what each machine below a layer keeps, and a floor passes on
pub record IsLower {S : Type 0} (M : Meaning S) : Type 0 where
  pub calls : (file : File) (from to : Standing S) (name : Name) (args : List Value) (ending : Ending) → M.Calls file from name args ending to →
      KeepsInCall M file from to name args ending
  pub falls : (file : File) (from to : Standing S) (name : Name) (args : List Value) (outage : Outage) → M.Falls file from name args outage to →
      KeepsInFall M file from to name args outage
  pub loses : (file : File) (from to : Standing S) (outage : Outage) → M.Loses file from outage to → KeepsInLoss M file from to outage
  -- giving up between operations does nothing, to power neither
  pub rests : (file : File) (s : S) → (M.behavior.machine GivenUp file (M.number s)).Loses (M.behavior.state file s) [] (M.behavior.state file s).base
  pub leaves_rest : (file : File) (at : Standing S) → M.behavior.Leaves (Some GivenUp) file at [] at
  -- no step leaves power as it is, and steps after whole ones leave what both leave in turn
  pub leaves_none : (file : File) (at : Standing S) → M.behavior.Leaves None file at [] at
  pub leaves_both : (how : Option Cause) (file : File) (from at to : Standing S) (first second : List M.behavior.Note) →
      M.behavior.Leaves None file from first at → M.behavior.Leaves how file at second to → M.behavior.Leaves how file from (first ++ second) to
