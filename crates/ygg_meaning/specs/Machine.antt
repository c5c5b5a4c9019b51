-- Machines that may lose power.
use Rattle.std.specs.Prelude.{Bool, List, [], ◌∷◌}
use Rattle.ygg_value.specs.declared.row.Value.{Value}
use Rattle.ygg_meaning.specs.Environments.{Name, Env}
use Rattle.ygg_meaning.specs.Progress.{Answer}

-- the choices that nobody but the machine makes, in the order in which they are made
abbrev pub Picks : Type 0
Picks = List Bool

-- A running state: the memories of the layers, the topmost first, over a base. The base is the variables of a specification, the
-- tables of a disk, or the state of whatever the disk calls are made on.
pub record State (B : Type 0) : Type 0 where
  pub memories : List Env
  pub base : B

-- a base with no layer on it
abbrev pub based : {B : Type 0} → B → State B
based base = record { memories = []; base = base }

-- a layer's memory on a state of the machine below it
abbrev pub on : {B : Type 0} → Env → State B → State B
on memory lower = record { memories = memory ∷ lower.memories; base = lower.base }

-- the memory of the topmost layer
abbrev pub memory_in : {B : Type 0} → State B → Env
memory_in s = elim s.memories [ [] ↦ [] | memory ∷ below ↦ memory ]

-- the name of a layer and of one of its background steps
pub record TickName : Type 0 where
  pub layer : Name
  pub name : Name

-- What a machine over the bases B can do. A fallen state, which is what power loss leaves, is a base without memories. Each step
-- names what is noted of it, a list of X: the picks that it takes, or the disk calls that it makes.
pub record Machine (B X : Type 0) : Type 1 where
  -- it is formatted
  pub Starts : State B → List X → Type 0
  -- a whole operation, with its arguments and its answer
  pub Calls : State B → Name → List Value → List X → Answer → State B → Type 0
  -- power fails before an operation returns
  pub Falls : State B → Name → List Value → List X → B → Type 0
  -- a whole background step
  pub Ticks : State B → TickName → List X → State B → Type 0
  -- power fails within a background step
  pub TickFalls : State B → TickName → List X → B → Type 0
  -- power fails between operations
  pub Loses : State B → List X → B → Type 0
  -- a whole recovery
  pub Wakes : B → List X → State B → Type 0
  -- power fails within a recovery
  pub WakeFalls : B → List X → B → Type 0
