use Rattle.std.proofs.Common.{◌≡◌, take}
use Rattle.ygg_disk.specs.Pending.{applied}
use Rattle.ygg_disk.specs.Marked.{kept_of}
use Rattle.ygg_disk.specs.Waiting.{marked}
use Rattle.ygg_disk.specs.Size.{HasSize}
use Rattle.ygg_disk.proofs.waiting.apply_kept.Given as goal

abbrev pub invariant-loop-write : goal.invariant-loop-write
invariant-loop-write l = (l.stable ≡ applied (kept_of (marked (take l.write-index l.waiting))) l.initial.stable) × HasSize l.fn.geometry l.stable
