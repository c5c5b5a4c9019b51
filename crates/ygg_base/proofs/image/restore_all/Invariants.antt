use Rattle.std.proofs.Common.{◌≡◌, length}
use Rattle.ygg_base.specs.Ram.{HaveLost}
use Rattle.ygg_base.proofs.image.restore_all.Given as goal

abbrev pub invariant-loop-place : goal.invariant-loop-place
invariant-loop-place l = HaveLost l.place l.initial.stored.items l.stored.items × (length l.stored.items ≡ length l.initial.stored.items)
