use Rattle.std.proofs.Common.{length}
use Rattle.ygg_syntax.specs.Files.{claim}
use Rattle.ygg_read.specs.LayerParts.{rest_of_claim}
use Rattle.ygg_read.proofs.ClaimLists.{ListRead}
use Rattle.ygg_read.proofs.claims.repeated.Given as goal

-- the claims so far
abbrev pub invariant-loop-all : goal.invariant-loop-all
invariant-loop-all l = ListRead (claim l.keyword) l.keyword rest_of_claim l.fn.reader l.all l.reader

abbrev pub decreases-loop-all : goal.decreases-loop-all
decreases-loop-all l = length l.reader
