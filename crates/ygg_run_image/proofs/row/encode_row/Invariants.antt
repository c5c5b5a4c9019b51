use Rattle.std.proofs.Common.{◌≡◌, ℕ, ◌<◌, ◌^◌, get_or}
use Rattle.ygg_run_image.proofs.ImageRows.{begun}
use Rattle.ygg_run_image.proofs.row.encode_row.Given as goal

abbrev pub invariant-loop-place : goal.invariant-loop-place
invariant-loop-place l = (l.block ≡ begun l.fn.geometry l.row.words l.place) × ((i : ℕ) → i < l.place → get_or l.row.words i 0 < 2 ^ l.fn.geometry.width)
