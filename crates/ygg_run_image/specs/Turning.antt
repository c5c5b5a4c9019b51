-- What calls on a disk make of the device that holds it.
use Rattle.std.specs.Prelude.{◌≡◌, ℕ, ◌+◌, ◌<◌, ◌≤◌, List, ◌⊎◌}
use Rattle.ygg_base.specs.declared.geometry.DiskKind.{DiskKind}
use Rattle.ygg_base.specs.declared.geometry.DiskKind.TheVariants.{Sync, Async}
use Rattle.ygg_base.specs.declared.geometry.Geometry.{Geometry}
use Rattle.ygg_base.specs.declared.outside.Moved.{Moved}
use Rattle.ygg_base.specs.declared.outside.Moved.TheVariants.{Done, Failed}
use Rattle.ygg_base.specs.Devices.{Image, Attachment, AttachedTurns, Flushes, Tells, Writes}
use Rattle.ygg_value.specs.Number.{Digits}
use Rattle.ygg_disk.specs.Disk.{Call, Read, Write, Flush}
use Rattle.ygg_run_image.specs.Image.{row_block}
use Rattle.ygg_run_image.specs.Judged.{AreWords}
use Rattle.ygg_run_image.specs.Sight.{Sight}

-- the same reference, disk and attachment; where images are told, the attached one turns so, and no other is changed
pub record Moves (Turns : Attachment → (before now : Image) → Type 0) (before after : Sight) : Type 0 where
  pub reference : after.reference ≡ before.reference
  pub geometry : after.geometry ≡ before.geometry
  pub attached : after.attached ≡ before.attached
  pub images : Tells (AttachedTurns Turns before.attached) before.images after.images

-- a device write of a block and then a flush: both are done, or one fails, and there is no flush after a write that failed
abbrev pub WritesThrough : (place : ℕ) → (block : List ℕ) → Moved → Attachment → (before now : Image) → Type 0
WritesThrough place block Done a before now = (mid : Image) × Writes place block Done a before mid × Flushes Done a mid now
WritesThrough place block Failed a before now =
    Writes place block Failed a before now ⊎ ((mid : Image) × Writes place block Done a before mid × Flushes Failed a mid now)

-- a block is written: on a synchronous disk with a flush
abbrev pub WritesBlock : DiskKind → (place : ℕ) → (block : List ℕ) → Moved → Attachment → (before now : Image) → Type 0
WritesBlock Sync = WritesThrough
WritesBlock Async = Writes

-- all is made stable: on a synchronous disk it is already
abbrev pub FlushesDisk : DiskKind → Moved → Attachment → (before now : Image) → Type 0
FlushesDisk Sync moved a before now = now ≡ before
FlushesDisk Async moved a before now = Flushes moved a before now

-- a row is written, whose block stands behind the header and those of the rows before it; past the end nothing is
abbrev pub WritesRow : Geometry → (at : ℕ) → Digits → Moved → Attachment → (before now : Image) → Type 0
WritesRow g at row moved a before now =
    ((at < g.rows) × AreWords g row.words × WritesBlock g.kind (at + 1) (row_block g row.words) moved a before now)
    ⊎ ((g.rows ≤ at) × (now ≡ before))

-- what a call makes of the attached image, where all its device calls are done or one of them fails
abbrev pub Turned : Geometry → Call → Moved → Attachment → (before now : Image) → Type 0
Turned g (Read at) moved a before now = now ≡ before
Turned g (Write at row) moved a before now = WritesRow g at row moved a before now
Turned g Flush moved a before now = FlushesDisk g.kind moved a before now
