-- Schedules as they are handed in, and the obligations and schedules that they stand for.
use Rattle.std.specs.Prelude.{◌≡◌, ℕ, Bool, true, ◌&&◌, IsTrue, List, slice_get, Option, Some}
use Rattle.std.specs.Option.{option_map}
use Rattle.ygg_value.specs.declared.row.Value.{Value}
use Rattle.ygg_syntax.specs.declared.tree.Layer.{Layer}
use Rattle.ygg_syntax.specs.declared.tree.File.{File}
use Rattle.ygg_sched.specs.ygg_meaning.Environments.{Env, bind}
use Rattle.ygg_sched.specs.ygg_meaning.Shapes.{values_fit}
use Rattle.ygg_sched.specs.ygg_meaning.Obligations.{Obligation, Init, CallOf, CutOf, TickOf, CutTickOf, Idle, Again}
use Rattle.ygg_sched.specs.ygg_meaning.Obligations as obligations
use Rattle.ygg_sched.specs.ygg_meaning.Replayed.{Shows, Hypothesis, Passes, Replays}
use Rattle.ygg_sched.specs.ygg_meaning.Replayed as replayed
use Rattle.ygg_eval.specs.Layers.{variables_at, closed_at, machine_at}
use Rattle.ygg_sched.specs.declared.case.Case.{Case}
use Rattle.ygg_sched.specs.declared.schedule.Halt.{Halt}
use Rattle.ygg_sched.specs.declared.schedule.Schedule.{Schedule}
use Rattle.ygg_sched.specs.Cases.{obligation_at}
use Rattle.ygg_sched.specs.Fitting.{halt_meant}
use Rattle.ygg_replay.specs.declared.schedule.Replayed.{Replayed}
use Rattle.ygg_replay.specs.declared.schedule.Replayed.TheVariants as answer

-- where the run stops, if it does
abbrev pub halt_of : Option Halt → Option obligations.Halt
halt_of = option_map halt_meant

-- the base below a layer, by name
abbrev pub low_in : File → ℕ → List Value → Env
low_in file place = bind (variables_at file place)

-- the schedule that is meant: its values by name
abbrev pub meant : File → ℕ → Layer → Schedule → obligations.Schedule
meant file place l x = record {
  state = bind l.state x.state;
  memory = bind l.memory x.memory;
  low = low_in file place x.low;
  args = x.args;
  stop = halt_of x.stop;
  picks = x.picks;
  wake = x.wake;
  other = x.other;
}

-- whether the values of a layer have the shapes that are declared
abbrev pub states_fit : File → ℕ → Layer → Schedule → Bool
states_fit file place l x = values_fit l.state x.state && (values_fit l.memory x.memory && values_fit (variables_at file place) x.low)

-- whether the values that an obligation speaks of have the shapes that are declared
abbrev pub schedule_fits : File → ℕ → Layer → Schedule → Obligation → Bool
schedule_fits file place l x Init = true
schedule_fits file place l x (CallOf o) = states_fit file place l x && values_fit o.arguments x.args
schedule_fits file place l x (CutOf o) = states_fit file place l x && values_fit o.arguments x.args
schedule_fits file place l x (TickOf t) = states_fit file place l x
schedule_fits file place l x (CutTickOf t) = states_fit file place l x
schedule_fits file place l x Idle = states_fit file place l x
schedule_fits file place l x Again = values_fit (variables_at file place) x.low

-- the obligation is one of the file, and the values that it speaks of have the shapes that are declared
pub record IsAsked (file : File) (which : Case) (x : Schedule) : Type 0 where
  pub layer : Layer
  pub here : slice_get file.layers which.layer ≡ Some layer
  pub obligation : Obligation
  pub is : obligation_at layer which.kind which.number ≡ Some obligation
  pub fit : IsTrue (schedule_fits file which.layer layer x obligation)

-- what an answer says
abbrev pub shown_by : Replayed → replayed.Replayed
shown_by answer.Shows = Shows
shown_by (answer.Hypothesis number) = Hypothesis number
shown_by (answer.Holds picks) = Passes picks

-- the answer is what the schedule of the obligation shows
abbrev pub IsShown : File → Case → Schedule → Replayed → Type 0
IsShown file which x answer =
    (l : Layer) (o : Obligation) → slice_get file.layers which.layer ≡ Some l → obligation_at l which.kind which.number ≡ Some o →
    Replays (closed_at file which.layer l) (machine_at file which.layer) o (meant file which.layer l x) (shown_by answer)
