use Rattle.std.proofs.Common.{◌≡◌, ℕ, ◌*◌, ◌%◌, ◌<◌, ◌^◌, length, get_or, take, drop}
use Rattle.ygg_run_image.specs.Image.{word_bytes, number_in}
use Rattle.ygg_run_image.proofs.row.decode_row.Given as goal

abbrev pub invariant-loop-place : goal.invariant-loop-place
invariant-loop-place l =
    (l.row.width ≡ l.fn.geometry.width) × (length l.row.words ≡ l.fn.geometry.words)
    × ((i : ℕ) → i < l.place → get_or l.row.words i 0
    ≡ number_in (take (word_bytes l.fn.geometry) (drop (i * word_bytes l.fn.geometry) l.block)) % 2 ^ l.fn.geometry.width)
