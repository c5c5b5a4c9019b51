-- Layers on one another as what can be formatted and woken, and has background steps, beside being a machine below a layer.
use Rattle.std.specs.Prelude.{◌≡◌, ℕ, ◌≤◌, ◌<◌, List, [], ◌++◌, map, length, slice_get, Option, Some, None, ◌⊎◌}
use Rattle.ygg_value.specs.declared.row.Value.{Value}
use Rattle.ygg_syntax.specs.declared.tree.Layer.{Layer}
use Rattle.ygg_syntax.specs.declared.tree.File.{File}
use Rattle.ygg_eval.specs.ygg_disk.Ground as ground
use Rattle.ygg_eval.specs.ygg_meaning.Environments.{Name}
use Rattle.ygg_eval.specs.ygg_meaning.Machine.{State, on, Machine}
use Rattle.ygg_eval.specs.ygg_meaning.Layer.{BlockFalls}
use Rattle.ygg_eval.specs.ygg_meaning.Shapes.{zeros_of}
use Rattle.ygg_eval.specs.ygg_meaning.Mirror.{Mirrors}
use Rattle.ygg_eval.specs.Layers.{closed_at}
use Rattle.ygg_eval.specs.Lower.{Standing, Meaning, Cause, PowerLoss, Ending}
use Rattle.ygg_machine.specs.Grounded.{ground_from}
use Rattle.ygg_machine.specs.Floors.{Raised, floor_meaning}
use Rattle.ygg_machine.specs.Commands.{Stage, Command, formatting, Ended}

-- what a tower means that is formatted from some state, and what is left of a formatting that is cut
pub record Rooted (S : Type 0) : Type 1 where
  pub meaning : Meaning S
  pub FormatFalls : Cause → File → List meaning.behavior.Note → meaning.behavior.Base → Type 0

-- a ground, whose formatting does nothing
abbrev pub ground_rooted : {S : Type 0} → ground.Meaning S → S → Rooted S
ground_rooted G start = record { meaning = ground_from G start; FormatFalls = λ cause file notes fallen. ⊥ }

-- formatting is cut in the `format` block of the layer at this place, over the machine below it, after that was formatted
pub record FormatFallsHere {B X : Type 0} (M : Machine B X) (file : File) (place : ℕ) (notes : List X) (fallen : B) : Type 0 where
  pub layer : Layer
  pub there : slice_get file.layers place ≡ Some layer
  pub lower : State B
  pub first : List X
  pub second : List X
  pub starts : M.Starts lower first
  pub falls : BlockFalls (closed_at file place layer) M layer.format [] (on (zeros_of layer.memory) lower) second fallen
  pub takes : notes ≡ first ++ second

-- a layer on a tower, which is formatted after it
abbrev pub floor_rooted : {S : Type 0} → (S → Rooted S) → Raised S → Rooted (Raised S)
floor_rooted R s = record {
  meaning = floor_meaning (R s.below).meaning;
  FormatFalls = λ cause file notes fallen.
      (R s.below).FormatFalls cause file notes fallen
      ⊎ FormatFallsHere ((R s.below).meaning.behavior.machine cause file ((R s.below).meaning.number s.below)) file ((R s.below).meaning.number s.below)
      notes fallen;
}

-- the file has the layer, and what is below stands
pub record StandsOn {S : Type 0} (M : Meaning S) (Stands : File → S → Type 0) (file : File) (s : Raised S) : Type 0 where
  pub there : M.number s.below < length file.layers
  pub below : Stands file s.below

-- The second means what the first means, wherever that stands: its bases and notes are told by those of the first.
pub record Tells {S : Type 0} (Stands : File → S → Type 0) (M N : Meaning S) : Type 0 where
  pub base : M.behavior.Base → N.behavior.Base
  pub note : M.behavior.Note → N.behavior.Note
  pub number : (s : S) → N.number s ≡ M.number s
  pub faults : (s : S) → N.faults s ≡ M.faults s
  pub state : (file : File) (s : S) →
      N.behavior.state file s ≡ record { memories = (M.behavior.state file s).memories; base = base (M.behavior.state file s).base }
  pub leaves : (how : Option Cause) (file : File) (from to : Standing S) (notes : List M.behavior.Note) → M.behavior.Leaves how file from notes to →
      N.behavior.Leaves how file from (map note notes) to
  pub leaves_both : (how : Option Cause) (file : File) (from at to : Standing S) (first second : List N.behavior.Note) →
      N.behavior.Leaves None file from first at → N.behavior.Leaves how file at second to → N.behavior.Leaves how file from (first ++ second) to
  pub steps : (cause : Cause) (file : File) (s : S) → Stands file s →
      Mirrors (λ c b. c ≡ base b) (λ a b. b ≡ map note a) (M.behavior.machine cause file (M.number s)) (N.behavior.machine cause file (M.number s))

-- its state, its count of faults, and power
abbrev pub stage_of : {S : Type 0} → (M : Meaning S) → File → Standing S → Stage M.behavior.Base
stage_of M file at = record { state = M.behavior.state file at.machine; faults = M.faults at.machine; power = at.power }

-- a command of a tower that means this ended so
abbrev pub CommandEnds : {S : Type 0} → (M : Meaning S) → File → Command M.behavior.Base M.behavior.Note → Ending → Standing S → Standing S → Type 0
CommandEnds M file command ending from to =
    Ended (λ cause. M.behavior.machine cause file (M.number from.machine)) command (stage_of M file from) (stage_of M file to)
    (λ how notes. M.behavior.Leaves how file from notes to) ending

-- formatting ended so
abbrev pub FormatEnds : {S : Type 0} → Rooted S → File → Ending → Standing S → Standing S → Type 0
FormatEnds R file ending from to = CommandEnds R.meaning file (formatting (λ cause notes fallen. R.FormatFalls cause file notes fallen)) ending from to

-- it is the tower of its number still, and stands
pub record StillStands {S : Type 0} (M : Meaning S) (Stands : File → S → Type 0) (file : File) (from to : S) : Type 0 where
  pub number : M.number to ≡ M.number from
  pub stands : Stands file to

-- power failed between commands: in every file of which it stands, the layers lose it
pub record LosesPower {S : Type 0} (M : Meaning S) (Stands : File → S → Type 0) (from to : S) : Type 0 where
  pub number : M.number to ≡ M.number from
  pub later : M.faults from ≤ M.faults to
  pub stands : (file : File) → Stands file from → Stands file to
  pub lost : (file : File) → Stands file from →
      (M.behavior.machine PowerLoss file (M.number from)).Loses (M.behavior.state file from) [] (M.behavior.state file to).base

-- What each tower keeps: wherever it is formatted from, it means what it means as a machine below a layer; such a machine stands, and what stands does
-- so however a call ends.
pub record IsTower {S : Type 0} (M : Meaning S) (R : S → Rooted S) (Stands : File → S → Type 0) : Type 0 where
  pub tells : (start : S) → Tells Stands M (R start).meaning
  pub stands : (file : File) (s : S) → M.Fits file s → Stands file s
  pub lasts : (file : File) (from to : Standing S) (name : Name) (args : List Value) (ending : Ending) → M.Calls file from name args ending to →
      Stands file from.machine → Stands file to.machine
