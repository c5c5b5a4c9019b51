-- What is left of an image by a call that failed or found no memory.
use Rattle.std.specs.Prelude.{◌≡◌, ℕ, ◌+◌, nat_lt, if◌then◌else◌, List, ◌⊎◌}
use Rattle.ygg_base.specs.declared.geometry.Geometry.{Geometry}
use Rattle.ygg_base.specs.declared.outside.Moved.TheVariants.{Failed}
use Rattle.ygg_base.specs.Devices.{Image, Attachment, block_at, with_block}
use Rattle.ygg_disk.specs.Disk.{Call, Read, Write, Flush}
use Rattle.ygg_run_image.specs.Image.{block_bytes, row_block}
use Rattle.ygg_run_image.specs.Turning.{Turned}

-- bytes as a call writes them: a write within the disk writes the block of its row
abbrev pub written_by : Geometry → Call → (bytes : List ℕ) → List ℕ
written_by g (Write at row) bytes = if nat_lt at g.rows then with_block (block_bytes g) (at + 1) (row_block g row.words) bytes else bytes
written_by g (Read at) bytes = bytes
written_by g Flush bytes = bytes

-- the block at a place is as in these bytes, or as the call writes them
abbrev pub IsFrom : Geometry → Call → (place : ℕ) → (block bytes : List ℕ) → Type 0
IsFrom g call place block bytes =
    (block ≡ block_at (block_bytes g) place bytes) ⊎ (block ≡ block_at (block_bytes g) place (written_by g call bytes))

-- Each block that is read is as before or as the call writes it; each that is left when power fails is as before, as the one that was read before, or as
-- the call writes it.
pub record BlocksLeft (g : Geometry) (call : Call) (before now : Image) : Type 0 where
  pub view : (place : ℕ) → IsFrom g call place (block_at (block_bytes g) place now.view) before.view
  pub stable : (place : ℕ) →
      IsFrom g call place (block_at (block_bytes g) place now.stable) before.stable
      ⊎ IsFrom g call place (block_at (block_bytes g) place now.stable) before.view

-- so it is after each call of which a device call failed, or which found no memory
abbrev pub FailedCallsLeaveBlocks : Type 0
FailedCallsLeaveBlocks =
    (g : Geometry) (call : Call) (a : Attachment) (before now : Image) → a.size ≡ block_bytes g → Turned g call Failed a before now →
    BlocksLeft g call before now
