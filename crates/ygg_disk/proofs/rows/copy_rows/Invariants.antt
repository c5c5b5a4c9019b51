use Rattle.ygg_disk.proofs.Copying.{Copied}
use Rattle.ygg_disk.proofs.rows.copy_rows.Given as goal

abbrev pub invariant-loop-place : goal.invariant-loop-place
invariant-loop-place l = Copied l.fn.geometry l.from l.into l.spare l.place
