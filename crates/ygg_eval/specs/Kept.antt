-- The specification of a layer, or the disk, with the values that it keeps, and its steps.
use Rattle.std.specs.Prelude.{◌≡◌, ℕ, ◌≤◌, Bool, true, IsTrue, List, length, Option, Some, None}
use Rattle.ygg_value.specs.declared.row.Value.{Value}
use Rattle.ygg_syntax.specs.declared.tree.File.{File}
use Rattle.ygg_eval.specs.ygg_disk.declared.power.Power.{Power}
use Rattle.ygg_eval.specs.ygg_meaning.Environments.{Name, Env, bind}
use Rattle.ygg_eval.specs.ygg_meaning.Shapes.{values_fit}
use Rattle.ygg_eval.specs.ygg_meaning.Machine.{Picks, Machine, based}
use Rattle.ygg_eval.specs.Layers.{variables_at, machine_at}
use Rattle.ygg_eval.specs.Lower.{
  Standing,
  Behavior,
  Meaning,
  Ending,
  Whole,
  Down,
  Failed,
  Starved,
  Outage,
  Happened,
  Lacking,
  Cause,
  PowerLoss,
  GivenUp,
}
use Rattle.ygg_eval.specs.Taken.{TakesOnly}

-- which machine of a file it is, by its number, and the values of its variables in order
pub record Kept : Type 0 where
  pub number : ℕ
  pub values : List Value

-- the machine of this number with these values, and what is told of power
abbrev pub standing : ℕ → List Value → Power → Standing Kept
standing number values power = record { machine = record { number = number; values = values }; power = power }

-- the file has the machine, and the values have the shapes that are declared there
pub record IsKept (file : File) (k : Kept) : Type 0 where
  pub there : k.number ≤ length file.layers
  pub fit : IsTrue (values_fit (variables_at file k.number) k.values)

-- the variables by name
abbrev pub named_in : File → Kept → Env
named_in file k = bind (variables_at file k.number) k.values

-- the machine made a step with the next picks, and is the one of its number still
pub record Stepped (Step : Picks → Type 0) (from to : Standing Kept) : Type 0 where
  pub picks : Picks
  pub step : Step picks
  pub takes : TakesOnly picks from.power to.power
  pub number : to.machine.number ≡ from.machine.number

-- how a call of an operation ends: whole, as the machine of this number in the file makes it, or for being out of memory
abbrev pub Calls : File → Standing Kept → Name → List Value → Ending → Standing Kept → Type 0
Calls file from name args (Whole answer) to =
    Stepped (λ picks. (machine_at file from.machine.number).Calls (based (named_in file from.machine)) name args picks answer
    (based (named_in file to.machine))) from to
Calls file from name args Down to = ⊥
Calls file from name args Failed to = ⊥
Calls file from name args Starved to = to.machine.number ≡ from.machine.number

-- power fails within an operation, unless no memory is left
abbrev pub Falls : File → Standing Kept → Name → List Value → Outage → Standing Kept → Type 0
Falls file from name args Lacking to = to.machine.number ≡ from.machine.number
Falls file from name args Happened to =
    Stepped (λ picks. (machine_at file from.machine.number).Falls (based (named_in file from.machine)) name args picks (named_in file to.machine)) from to

-- power fails between operations, unless no memory is left
abbrev pub Loses : File → Standing Kept → Outage → Standing Kept → Type 0
Loses file from Lacking to = to.machine.number ≡ from.machine.number
Loses file from Happened to = Stepped (λ picks. (machine_at file from.machine.number).Loses (based (named_in file from.machine)) picks
    (named_in file to.machine)) from to

-- the machine with this number; once it is given up nothing is known of it
abbrev pub machine_by : Cause → File → ℕ → Machine Env Bool
machine_by PowerLoss file number = machine_at file number
machine_by GivenUp file number = record (machine_at file number) { Falls = λ s name args picks f. Unit {0}; Loses = λ s picks f. Unit {0} }

-- what steps with these picks leave of power: they are taken, and nothing else changes; once it is given up nothing is said of that either
abbrev pub TakesBy : Option Cause → Picks → Power → Power → Type 0
TakesBy None picks before after = TakesOnly picks before after
TakesBy (Some PowerLoss) picks before after = TakesOnly picks before after
TakesBy (Some GivenUp) picks before after = Unit {0}

-- its steps, with their picks
abbrev pub spec_behavior : Behavior Kept
spec_behavior = record {
  Base = Env;
  Note = Bool;
  machine = machine_by;
  state = λ file k. based (named_in file k);
  Leaves = λ how file from picks to. TakesBy how picks from.power to.power;
}

-- The specification of a layer, or the disk. It can be stopped and lose power, and has no faults.
abbrev pub spec_meaning : Meaning Kept
spec_meaning = record {
  number = λ k. k.number;
  Fits = IsKept;
  can_stop = true;
  can_lose = true;
  faults = λ k. 0;
  Calls = Calls;
  Falls = Falls;
  Loses = Loses;
  behavior = spec_behavior;
}

-- a machine of which nothing is known
abbrev pub unknown_behavior : {S : Type 0} → Behavior S
unknown_behavior = record {
  Base = Unit {0};
  Note = Bool;
  machine = λ cause file number. record {
    Starts = λ s picks. Unit {0};
    Calls = λ s name args picks answer s'. Unit {0};
    Falls = λ s name args picks f. Unit {0};
    Ticks = λ s name picks s'. Unit {0};
    TickFalls = λ s name picks f. Unit {0};
    Loses = λ s picks f. Unit {0};
    Wakes = λ f picks s. Unit {0};
    WakeFalls = λ f picks f'. Unit {0};
  };
  state = λ file s. based tt;
  Leaves = λ how file from picks to. Unit {0};
}

-- a machine that has no memory for any step
abbrev pub silent_meaning : {S : Type 0} → Meaning S
silent_meaning = record {
  number = λ s. 0;
  Fits = λ file s. Unit {0};
  can_stop = true;
  can_lose = true;
  faults = λ s. 0;
  Calls = λ file from name args ending to. ending ≡ Starved;
  Falls = λ file from name args outage to. outage ≡ Lacking;
  Loses = λ file from outage to. outage ≡ Lacking;
  behavior = unknown_behavior;
}
