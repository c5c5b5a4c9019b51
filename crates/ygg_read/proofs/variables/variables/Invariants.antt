use Rattle.std.proofs.Common.{length}
use Rattle.ygg_syntax.specs.Files.{variable}
use Rattle.ygg_syntax.specs.Pending.{rest_of_variable}
use Rattle.ygg_read.proofs.ClaimLists.{ListRead}
use Rattle.ygg_read.proofs.variables.variables.Given as goal

-- the variables so far
abbrev pub invariant-loop-all : goal.invariant-loop-all
invariant-loop-all l = ListRead (variable l.keyword) l.keyword rest_of_variable l.fn.reader l.all l.reader

abbrev pub decreases-loop-all : goal.decreases-loop-all
decreases-loop-all l = length l.reader
