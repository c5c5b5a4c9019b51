-- What all calls on a ground over a device keep.
use Rattle.std.specs.Prelude.{◌≡◌, take, ◌⊎◌}
use Rattle.ygg_base.specs.declared.geometry.Geometry.{Geometry}
use Rattle.ygg_base.specs.Devices.{Image, Attachment}
use Rattle.ygg_run_image.specs.Image.{block_bytes}
use Rattle.ygg_run_image.specs.Laws.{AreBlocks}
use Rattle.ygg_run_image.specs.Sight.{Sight}
use Rattle.ygg_run_image.specs.Turning.{Moves}

-- The first block that is read is as before, the one that is left when power fails is as it or the read one was before, and both lists hold rows of
-- the disk.
pub record KeepsHeader (g : Geometry) (a : Attachment) (before now : Image) : Type 0 where
  pub view_first : take (block_bytes g) now.view ≡ take (block_bytes g) before.view
  pub stable_first :
      (take (block_bytes g) now.stable ≡ take (block_bytes g) before.stable) ⊎ (take (block_bytes g) now.stable ≡ take (block_bytes g) before.view)
  pub view_rows : AreBlocks g now.view
  pub stable_rows : AreBlocks g now.stable

-- the ground has the device by the same reference, with the same image attached, which keeps its header and holds rows; no other image is changed
abbrev pub StaysOn : (start now : Sight) → Type 0
StaysOn start now = Moves (KeepsHeader start.geometry) start now
