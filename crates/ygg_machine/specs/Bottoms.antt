-- The layers of a file on a ground, by number, and how they look from above.
use Rattle.std.specs.Prelude.{◌≡◌, ℕ, zero, suc, ◌≤◌, IsTrue, List, [], ◌∷◌, length, slice_get, ◌⊎◌, Some}
use Rattle.ygg_value.specs.declared.row.Value.{Value}
use Rattle.ygg_syntax.specs.declared.tree.Layer.{Layer}
use Rattle.ygg_syntax.specs.declared.tree.File.{File}
use Rattle.ygg_eval.specs.ygg_disk.Ground as disk
use Rattle.ygg_eval.specs.ygg_disk.declared.power.Power.{Power}
use Rattle.ygg_eval.specs.ygg_meaning.Environments.{Env, bind}
use Rattle.ygg_eval.specs.ygg_meaning.Machine.{State, Machine}
use Rattle.ygg_eval.specs.ygg_meaning.Shapes.{values_fit}
use Rattle.ygg_eval.specs.ygg_meaning.Noted.{Note}
use Rattle.ygg_eval.specs.Lower.{Cause, PowerLoss, Ending}
use Rattle.ygg_machine.specs.GroundSteps.{ground_machine}
use Rattle.ygg_machine.specs.Leaves.{LeaveBy}
use Rattle.ygg_machine.specs.Grounded.{HasRows}
use Rattle.ygg_machine.specs.Floors.{memory_at, layer_over}
use Rattle.ygg_machine.specs.Commands.{Stage, Command, formatting, Ended}
use Rattle.ygg_machine.specs.Towers.{FormatFallsHere}

-- so many layers of a file, the lowest ones, each on those below it, over the calls that are made on a ground from this state on
unfoldable pub bottom_on : {S : Type 0} → disk.Meaning S → Cause → File → S → ℕ → Machine S Note
bottom_on G cause file start zero = ground_machine G cause start
bottom_on G cause file start (suc n) = layer_over file n (bottom_on G cause file start n)

-- what is left where the formatting of so many layers is cut, in one of them after those below it
unfoldable pub FormatFalls : {S : Type 0} → disk.Meaning S → Cause → File → S → ℕ → List Note → S → Type 0
FormatFalls G cause file start zero notes fallen = ⊥
FormatFalls G cause file start (suc n) notes fallen =
    FormatFalls G cause file start n notes fallen ⊎ FormatFallsHere (bottom_on G cause file start n) file n notes fallen

-- so many layers on a ground: the values of their memories, the topmost first, and the ground
pub record View (S : Type 0) : Type 0 where
  pub height : ℕ
  pub values : List (List Value)
  pub base : S

-- the memories of so many layers of a file by name, the topmost first
unfoldable pub memories_of : File → ℕ → List (List Value) → List Env
memories_of file zero vs = []
memories_of file (suc n) [] = []
memories_of file (suc n) (v ∷ vs) = bind (memory_at file n) v ∷ memories_of file n vs

-- each of them has its shapes
unfoldable pub MemoriesFit : File → ℕ → List (List Value) → Type 0
MemoriesFit file zero vs = Unit {0}
MemoriesFit file (suc n) [] = ⊥
MemoriesFit file (suc n) (v ∷ vs) =
    ((l : Layer) × (slice_get file.layers n ≡ Some l) × IsTrue (values_fit l.memory v)) × MemoriesFit file n vs

-- a layer's memory on what is below it
abbrev pub raised_view : {S : Type 0} → List Value → View S → View S
raised_view memory v = record { height = suc v.height; values = memory ∷ v.values; base = v.base }

-- the state
abbrev pub state_seen : {S : Type 0} → File → View S → State S
state_seen file v = record { memories = memories_of file v.height v.values; base = v.base }

module _ {S : Type 0} (G : disk.Meaning S) (file : File) where
  -- the file has so many layers, and the ground the rows of its disk: the layers may run, or power may have failed
  pub record ViewStands (v : View S) : Type 0 where
    pub within : v.height ≤ length file.layers
    pub rows : HasRows G file v.base

  -- there are as many layers still, and they stand
  pub record StillLooks (v v' : View S) : Type 0 where
    pub height : v'.height ≡ v.height
    pub stands : ViewStands v'

  -- besides, each memory has its shapes: the layers run
  pub record ViewRuns (v : View S) : Type 0 where
    pub memories : MemoriesFit file v.height v.values
    pub rows : HasRows G file v.base

  -- the state, the ground's count of faults, and power
  abbrev pub stage_seen : View S → Power → Stage S
  stage_seen v power = record { state = state_seen file v; faults = G.faults v.base; power = power }

  -- A command ended so, as one of the layers on the ground, and its disk calls left this of `power`: where it was whole, so were they all, and the fuse
  -- named none of them; where power failed in it, that was where the fuse says; where it was given up, all were whole but at most the last, which failed.
  abbrev pub ViewEnds : Command S Note → Ending → View S → Power → View S → Power → Type 0
  ViewEnds command ending v power v' power' =
      Ended (λ cause. bottom_on G cause file v.base v.height) command (stage_seen v power) (stage_seen v' power')
      (λ how notes. LeaveBy G how notes power power') ending

  -- formatting, where this is left of one that is cut
  abbrev pub formats : View S → Command S Note
  formats v = formatting (λ cause notes fallen. FormatFalls G cause file v.base v.height notes fallen)

  -- power failed between commands: the layers lose it
  abbrev pub ViewLoses : View S → View S → Type 0
  ViewLoses v v' = (bottom_on G PowerLoss file v.base v.height).Loses (state_seen file v) [] v'.base

-- power failed between commands, in every file of which the layers stand
pub record LosesAll {S : Type 0} (G : disk.Meaning S) (v v' : View S) : Type 0 where
  pub later : G.faults v.base ≤ G.faults v'.base
  pub looks : (file : File) → ViewStands G file v → StillLooks G file v v'
  pub lost : (file : File) → ViewStands G file v → ViewLoses G file v v'
