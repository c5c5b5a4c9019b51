-- Layers on a disk in memory, on which a script is played.
use Rattle.std.specs.Prelude.{◌≡◌, ℕ, true, [], length, Option, Some, None}
use Rattle.std.proofs.Common.{refl}
use Rattle.ygg_base.specs.declared.geometry.DiskKind.{DiskKind}
use Rattle.ygg_syntax.specs.declared.tree.File.{File}
use Rattle.ygg_machine.specs.ygg_disk.Ground.{Meaning}
use Rattle.ygg_machine.specs.ygg_disk.Kinds.{Disk, model_of}
use Rattle.ygg_machine.specs.ygg_disk.Meanings.{disk_meaning}
use Rattle.ygg_machine.specs.ygg_meaning.Environments.{Env}
use Rattle.ygg_machine.specs.ygg_meaning.Machine.{State}
use Rattle.ygg_machine.specs.ygg_meaning.DiskMachine.{tables_in}
use Rattle.ygg_run_play.specs.ygg_meaning.Noted.{disk_in}
use Rattle.ygg_run_play.specs.ygg_meaning.Grounds.{TellsZeros}
use Rattle.ygg_machine.specs.ygg_eval.Lower.{Ending, Whole, Down}
use Rattle.ygg_machine.specs.Grounded.{HasRows}
use Rattle.ygg_machine.specs.Bottoms.{View, ViewStands, ViewRuns, memories_of}
use Rattle.ygg_run_play.specs.declared.scene.CommandOutcome.{CommandOutcome}
use Rattle.ygg_run_play.specs.declared.scene.CommandOutcome.TheVariants as outcome

-- a ground that is a disk in memory: it follows `power`, can lose it, and has no faults
pub record IsPlayable {S : Type 0} (G : Meaning S) : Type 0 where
  pub follows : G.follows ≡ true
  pub can_lose : G.can_lose ≡ true
  pub faultless : (s : S) → G.faults s ≡ 0

-- the disks of both kinds are
abbrev pub disk_playable : (kind : DiskKind) → IsPlayable (disk_meaning kind)
disk_playable kind = record { follows = refl; can_lose = refl; faultless = λ s. refl }

-- a ground without layers
abbrev pub bare : {S : Type 0} → S → View S
bare s = record { height = 0; values = []; base = s }

-- the tables of the disk whose state is told
abbrev pub tables_told : Option Disk → Env
tables_told None = []
tables_told (Some d) = tables_in d.kind d.state

module _ {S : Type 0} (G : Meaning S) (f : File) where
  -- the state of the layers on the disk that the ground tells of
  abbrev pub state_played : View S → State Env
  state_played v = record { memories = memories_of f v.height v.values; base = tables_told (G.told v.base) }

  -- all layers of the file are there, and the ground tells the state of the file's disk
  pub record IsOnDisk (v : View S) : Type 0 where
    pub height : v.height ≡ length f.layers
    pub state : (model_of f.disk.kind).State
    pub told : G.told v.base ≡ Some (disk_in f.disk.kind state)

  -- so many layers, neither formatted nor woken, on the file's disk of zeros
  pub record IsUnwritten (count : ℕ) (v : View S) : Type 0 where
    pub height : v.height ≡ count
    pub rows : HasRows G f v.base
    pub zeros : TellsZeros G f v.base

  -- they run
  pub record Plays (v : View S) : Type 0 where
    pub runs : ViewRuns G f v
    pub on_disk : IsOnDisk v

  -- power may have failed
  pub record MayWake (v : View S) : Type 0 where
    pub stands : ViewStands G f v
    pub on_disk : IsOnDisk v

-- how a command of a scene ended, as one of a tower
abbrev pub ending_in : CommandOutcome → Ending
ending_in (outcome.Whole answer) = Whole answer
ending_in outcome.Down = Down
