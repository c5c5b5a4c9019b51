-- The schedule that a text is for a file, or else the refusal of its first line that is at fault.
use Rattle.std.specs.Prelude.{ℕ, Bool, true, false, List, [], ◌∷◌, Option, Some, None, Ok, codes}
use Rattle.ygg_value.specs.declared.row.Value.{Value}
use Rattle.ygg_syntax.specs.declared.tree.Declared.{Declared}
use Rattle.ygg_syntax.specs.declared.tree.File.{File}
use Rattle.ygg_sched.specs.declared.schedule.Halt.{Halt}
use Rattle.ygg_sched.specs.declared.schedule.Schedule.{Schedule}
use Rattle.ygg_sched.specs.declared.reading.ValuesRead.{ValuesRead}
use Rattle.ygg_sched.specs.declared.reading.RunsRead.{RunsRead}
use Rattle.ygg_sched.specs.Sites.{Site, state_lines, memory_lines, low_lines, argument_lines, has_stop, has_wake, has_other}
use Rattle.ygg_sched.specs.Lines.{Left, Read, ◌>>=◌, fixed_at, obligation_at, variable_at, stop_at, bits_at, nothing_at}

-- lines of these variables, in order
unfoldable pub variables_at : List ℕ → List Declared → Left → Read (List Value × Left)
variables_at word [] at = Ok ([], at)
variables_at word (d ∷ ds) at = do
  first ← variable_at word d.name.text d.shape at
  others ← variables_at word ds first.1
  Ok (first.0 ∷ others.0, others.1)

-- the line of the stop, where there is one
unfoldable pub stop_if : Bool → Left → Read (Option Halt × Left)
stop_if false at = Ok (None, at)
stop_if true at = do
  stop ← stop_at at
  Ok (Some stop.0, stop.1)

-- a line of picks, where there is one
unfoldable pub bits_if : Bool → List ℕ → Left → Read (List Bool × Left)
bits_if false word at = Ok ([], at)
bits_if true word at = bits_at word at

-- the values that a schedule has
pub record Valued : Type 0 where
  pub state : List Value
  pub memory : List Value
  pub low : List Value
  pub args : List Value

-- the values that code has read
abbrev pub valued : ValuesRead → Valued
valued r = record { state = r.state; memory = r.memory; low = r.low; args = r.args }

-- the lines of values
unfoldable pub values_at : Site → Left → Read (Valued × Left)
values_at s at = do
  state ← variables_at (codes "state ") (state_lines s) at
  memory ← variables_at (codes "memory ") (memory_lines s) state.1
  low ← variables_at (codes "low ") (low_lines s) memory.1
  args ← variables_at (codes "arg ") (argument_lines s) low.1
  Ok (record { state = state.0; memory = memory.0; low = low.0; args = args.0 }, args.1)

-- how the runs of a schedule go
pub record Runs : Type 0 where
  pub stop : Option Halt
  pub picks : List Bool
  pub wake : List Bool
  pub other : List Bool

-- the runs that code has read
abbrev pub runs_of : RunsRead → Runs
runs_of r = record { stop = r.stop; picks = r.picks; wake = r.wake; other = r.other }

-- the lines of runs
unfoldable pub runs_at : Site → Left → Read (Runs × Left)
runs_at s at = do
  stop ← stop_if (has_stop s.obligation) at
  picks ← bits_at (codes "picks ") stop.1
  wake ← bits_if (has_wake s.obligation) (codes "wake ") picks.1
  other ← bits_if (has_other s.obligation) (codes "other ") wake.1
  Ok (record { stop = stop.0; picks = picks.0; wake = wake.0; other = other.0 }, other.1)

-- the schedule of a name with these values and runs
abbrev pub schedule_with : List ℕ → Valued → Runs → Schedule
schedule_with name v r = record {
  name = name;
  state = v.state;
  memory = v.memory;
  low = v.low;
  args = v.args;
  stop = r.stop;
  picks = r.picks;
  wake = r.wake;
  other = r.other;
}

-- the lines up to `end`, after which nothing may follow
unfoldable pub body_at : List ℕ → Site → Left → Read Schedule
body_at name s at = do
  values ← values_at s at
  runs ← runs_at s values.1
  rest ← fixed_at (codes "end") runs.1
  nothing ← nothing_at rest
  Ok (schedule_with name values.0 runs.0)

-- the whole text
unfoldable pub schedule_of : File → List ℕ → Read Schedule
schedule_of f text = do
  first ← fixed_at (codes "ygg-schedule 1") (record { line = 1; bytes = text })
  named ← obligation_at f first
  body_at named.0.0 named.0.1 named.1
