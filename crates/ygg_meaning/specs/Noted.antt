-- Disk calls as what is noted of a step.
use Rattle.std.specs.Prelude.{◌≡◌, Bool, true, false, List, [], ◌∷◌}
use Rattle.std.specs.List.{flat_map}
use Rattle.ygg_syntax.specs.declared.tree.DiskText.{DiskText}
use Rattle.ygg_base.specs.declared.geometry.DiskKind.{DiskKind}
use Rattle.ygg_meaning.specs.ygg_disk.Disk as disk
use Rattle.ygg_meaning.specs.ygg_disk.Kinds.{Disk, model_of}
use Rattle.ygg_meaning.specs.Environments.{Env}
use Rattle.ygg_meaning.specs.Machine.{Machine}
use Rattle.ygg_meaning.specs.DiskMachine.{Store, machine_on, disk_store}

-- a disk call that began: whether power cut it, and the picks that it took
pub record Note : Type 0 where
  pub call : disk.Call
  pub cut : Bool
  pub picks : List Bool

-- the picks that were taken, in order
abbrev pub picks_in : List Note → List Bool
picks_in = flat_map (λ (n : Note). n.picks)

-- the same store, each call of which is noted
abbrev pub noting : {B : Type 0} → Store B Bool → Store B Note
noting K = record {
  Starts = K.Starts;
  Calls = λ b call notes reply b'. (picks : List Bool) × (notes ≡ record { call = call; cut = false; picks = picks } ∷ []) × K.Calls b call picks reply b';
  Falls = λ b call notes b'. (picks : List Bool) × (notes ≡ record { call = call; cut = true; picks = picks } ∷ []) × K.Falls b call picks b';
  Loses = K.Loses;
}

-- the machine of the disk that a file names, each call of which is noted
abbrev pub NotedDisk : DiskText → Machine Env Note
NotedDisk d = machine_on (noting (disk_store d))

-- a disk of the kind that a file names, in a state
abbrev pub disk_in : (kind : DiskKind) → (model_of kind).State → Disk
disk_in kind state = record { kind = kind; state = state }
