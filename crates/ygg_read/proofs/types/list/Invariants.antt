use Rattle.std.proofs.Common.{length}
use Rattle.ygg_read.proofs.ClaimLists.{SomeDeclared}
use Rattle.ygg_read.proofs.types.list.Given as goal

-- the names so far, and those that still come
abbrev pub invariant-loop-all : goal.invariant-loop-all
invariant-loop-all l = SomeDeclared l.sort l.fn.reader l.all l.reader

abbrev pub decreases-loop-all : goal.decreases-loop-all
decreases-loop-all l = length l.reader
