-- A layer of a file, what it stands on, and what its author states, one by one.
use Rattle.std.specs.Prelude.{◌≡◌, ℕ, suc, Bool, IsTrue, if◌then◌else◌, List, [], ◌∷◌, slice_get, Option, Some, None}
use Rattle.std.specs.Option.{option_map}
use Rattle.ygg_value.specs.declared.row.Value.{Value}
use Rattle.ygg_syntax.specs.declared.tree.File.{File}
use Rattle.ygg_sched.specs.ygg_meaning.Environments.{Env, bind}
use Rattle.ygg_sched.specs.ygg_meaning.Shapes.{values_fit}
use Rattle.ygg_sched.specs.ygg_meaning.Machine.{State, based, on, Machine}
use Rattle.ygg_sched.specs.ygg_meaning.Layer.{ClosedLayer}
use Rattle.ygg_eval.specs.Layers.{variables_at, closed_at, machine_at}
use Rattle.ygg_eval.specs.Kept.{Kept, IsKept}
use Rattle.ygg_replay.specs.declared.site.ReplaySite.{ReplaySite}

-- the layer stands at its place in the file
abbrev pub IsHere : ReplaySite → Type 0
IsHere s = slice_get (s.typed.now.file).layers s.place ≡ Some s.layer.now

-- its file
abbrev pub file_of : ReplaySite → File
file_of s = s.typed.now.file

-- the layer with all that it speaks of
abbrev pub closed_in : ReplaySite → ClosedLayer
closed_in s = closed_at s.typed.now.file s.place s.layer.now

-- the machine of what it is specified over
abbrev pub machine_in : ReplaySite → Machine Env Bool
machine_in s = machine_at s.typed.now.file s.place

-- the specification's variables, by name
abbrev pub vars_at : ReplaySite → List Value → Env
vars_at s = bind (s.layer.now).state

-- the memory, by name
abbrev pub memory_at : ReplaySite → List Value → Env
memory_at s = bind (s.layer.now).memory

-- the base below, by name
abbrev pub low_at : ReplaySite → List Value → Env
low_at s = bind (variables_at s.typed.now.file s.place)

-- a state of the layer
abbrev pub state_at : ReplaySite → List Value → List Value → State Env
state_at s memory low = on (memory_at s memory) (based (low_at s low))

-- values of the specification's variables have the shapes that are declared
abbrev pub VarsFit : ReplaySite → List Value → Type 0
VarsFit s state = IsTrue (values_fit (s.layer.now).state state)

-- values of the memory do
abbrev pub MemoryFits : ReplaySite → List Value → Type 0
MemoryFits s memory = IsTrue (values_fit (s.layer.now).memory memory)

-- values of the base below do
abbrev pub LowFits : ReplaySite → List Value → Type 0
LowFits s low = IsTrue (values_fit (variables_at s.typed.now.file s.place) low)

-- all of them do
pub record StatesFit (s : ReplaySite) (state memory low : List Value) : Type 0 where
  pub vars_fit : VarsFit s state
  pub memory_fits : MemoryFits s memory
  pub low_fits : LowFits s low

-- the machine that the layer is specified over, with values of the declared shapes
pub record IsBelow (s : ReplaySite) (k : Kept) : Type 0 where
  pub number : k.number ≡ s.place
  pub kept : IsKept s.typed.now.file k

-- the place of the first false one, counted from 0
abbrev pub first_false : List Bool → Option ℕ
first_false [] = None
first_false (b ∷ bs) = if b then option_map suc (first_false bs) else Some 0
