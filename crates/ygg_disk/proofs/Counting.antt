-- How many picks the calls on a disk take.
use Rattle.std.proofs.Common.{ap, length}
use Rattle.ygg_base.specs.declared.geometry.DiskKind.TheVariants.{Sync, Async}
use Rattle.ygg_disk.specs.Disk.{Read, Write, Flush}
use Rattle.ygg_disk.specs.Laws.{PicksAreCounted}

pub picks_are_counted : PicksAreCounted
picks_are_counted Sync from to (Read at) picks = (λ reply h. ap length h.0, λ h. ap length h.0)
picks_are_counted Sync from to (Write at row) picks = (λ reply h. ap length h.0, λ h. ap length h.1)
picks_are_counted Sync from to Flush picks = (λ reply h. ap length h.0, λ h. ap length h.0)
picks_are_counted Async from to (Read at) picks = (λ reply h. ap length h.0, λ h. ap length h.0)
picks_are_counted Async from to (Write at row) picks = (λ reply h. ap length h.1, λ h. ap length h.1)
picks_are_counted Async from to Flush picks = (λ reply h. ap length h.0, λ h. ap length h.0)
