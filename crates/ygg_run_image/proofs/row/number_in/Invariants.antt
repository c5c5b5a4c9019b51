use Rattle.std.proofs.Common.{◌≡◌, ◌<◌, ◌^◌, take}
use Rattle.ygg_run_image.specs.Image.{number_in}
use Rattle.ygg_run_image.proofs.row.number_in.Given as goal

abbrev pub invariant-loop-byte : goal.invariant-loop-byte
invariant-loop-byte l = (l.number ≡ number_in (take l.byte-index l.bytes)) × (l.number < 256 ^ l.byte-index)
