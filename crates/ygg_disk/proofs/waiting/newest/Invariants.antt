use Rattle.std.proofs.Common.{◌≡◌, take}
use Rattle.std.specs.Option.{option_copied}
use Rattle.ygg_disk.specs.Waiting.{marked, newest_at}
use Rattle.ygg_disk.proofs.waiting.newest.Given as goal

abbrev pub invariant-loop-write : goal.invariant-loop-write
invariant-loop-write l = option_copied l.found ≡ newest_at l.place (marked (take l.write-index l.waiting))
