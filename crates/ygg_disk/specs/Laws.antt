-- What all kinds of disks have in common.
use Rattle.std.specs.Prelude.{◌≡◌, true, false, length}
use Rattle.ygg_base.specs.declared.geometry.DiskKind.{DiskKind}
use Rattle.ygg_disk.specs.Disk.{Call, Reply, Picks}
use Rattle.ygg_disk.specs.Kinds.{model_of}

-- a call takes as many picks as its kind of disk says, whole or cut by power
abbrev pub PicksAreCounted : Type 0
PicksAreCounted =
    (kind : DiskKind) (from to : (model_of kind).State) (call : Call) (picks : Picks) →
    ((reply : Reply) → (model_of kind).Calls from call picks reply to → length picks ≡ (model_of kind).takes call false)
    × ((model_of kind).Falls from call picks to → length picks ≡ (model_of kind).takes call true)
