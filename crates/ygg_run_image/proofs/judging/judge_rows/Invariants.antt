use Rattle.std.proofs.Common.{◌≡◌, ℕ, ◌+◌, ◌<◌, ◌≤◌, length}
use Rattle.ygg_base.specs.Devices.{Image, block_at}
use Rattle.ygg_disk.specs.Rows.{IsDiskRow}
use Rattle.ygg_run_image.specs.Image.{block_bytes, image_bytes}
use Rattle.ygg_run_image.specs.Judged.{IsRowBlock}
use Rattle.ygg_run_image.specs.Mounting.{IsShown}
use Rattle.ygg_run_image.proofs.judging.judge_rows.Given as goal

-- the blocks of the rows so far are those of rows, and no image has changed
abbrev pub invariant-loop-place : goal.invariant-loop-place
invariant-loop-place g l = record {
  end : l.place-end ≡ l.fn.geometry.rows;
  block : length l.block ≡ block_bytes l.fn.geometry;
  row : IsDiskRow l.fn.geometry l.row;
  spare : length l.spare ≡ block_bytes l.fn.geometry;
  kept : g.D.Device.images l.device ≡ g.D.Device.images l.fn.device;
  still : g.D.Device.attached l.device ≡ g.D.Device.attached l.fn.device;
  later : g.D.Device.faults l.fn.device ≤ g.D.Device.faults l.device;
  rows : (image : Image) → IsShown (g.D.Device.images l.fn.device) (g.D.Device.attached l.fn.device) (image_bytes l.fn.geometry) image →
      (k : ℕ) → k < l.place → IsRowBlock l.fn.geometry (block_at (block_bytes l.fn.geometry) (k + 1) image.view);
}
