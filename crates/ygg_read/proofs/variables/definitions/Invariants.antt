use Rattle.std.proofs.Common.{length}
use Rattle.ygg_base.specs.declared.token.Keyword.TheVariants as word
use Rattle.ygg_syntax.specs.Files.{definition}
use Rattle.ygg_syntax.specs.Pending.{rest_of}
use Rattle.ygg_syntax.specs.Pending as pending
use Rattle.ygg_read.proofs.ClaimLists.{ListRead}
use Rattle.ygg_read.proofs.variables.definitions.Given as goal

-- the definitions so far
abbrev pub invariant-loop-all : goal.invariant-loop-all
invariant-loop-all l = ListRead definition word.Def (rest_of pending.definition) l.fn.reader l.all l.reader

abbrev pub decreases-loop-all : goal.decreases-loop-all
decreases-loop-all l = length l.reader
