use Rattle.std.proofs.Common.{length}
use Rattle.ygg_read.proofs.Lists.{IndicesRead}
use Rattle.ygg_read.proofs.parts.indices.Given as goal

-- the indices so far, and those that still come
abbrev pub invariant-loop-bracket : goal.invariant-loop-bracket
invariant-loop-bracket l = IndicesRead l.fn.reader l.read l.reader

abbrev pub decreases-loop-bracket : goal.decreases-loop-bracket
decreases-loop-bracket l = length l.reader
