use Rattle.std.proofs.Common.{◌≡◌, take, map}
use Rattle.ygg_disk.specs.Pending.{applied}
use Rattle.ygg_disk.specs.Waiting.{marked}
use Rattle.ygg_disk.specs.Size.{HasSize}
use Rattle.ygg_disk.proofs.waiting.apply_all.Given as goal

abbrev pub invariant-loop-write : goal.invariant-loop-write
invariant-loop-write l = (l.stable ≡ applied (map (λ w. w.write) (marked (take l.write-index l.waiting))) l.initial.stable) × HasSize l.fn.geometry l.stable
