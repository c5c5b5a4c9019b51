use Rattle.std.proofs.Common.{drop}
use Rattle.ygg_oblige_reading.proofs.Walking.{Walked}
use Rattle.ygg_oblige_reading.proofs.site.site_at.Given as goal

-- the layers so far, and those that are left
abbrev pub invariant-loop-i : goal.invariant-loop-i
invariant-loop-i g l = Walked (g.B.Book.kinds l.book) l.file l.place l.low (drop l.i l.file.layers) l.i l.below l.number l.left
