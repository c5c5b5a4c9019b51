use Rattle.std.proofs.Common.{◌+◌, ◌*◌, length}
use Rattle.ygg_read.proofs.Lists.{StatementsRead}
use Rattle.ygg_read.proofs.blocks.+blocks.Given as goal

abbrev pub decreases-block : goal.decreases-block
decreases-block l = 2 * length l.reader.now

abbrev pub decreases-branch : goal.decreases-branch
decreases-branch l = 2 * length l.reader.now

abbrev pub decreases-optional : goal.decreases-optional
decreases-optional l = 2 * length l.reader.now

abbrev pub decreases-repetition : goal.decreases-repetition
decreases-repetition l = 2 * length l.reader.now

abbrev pub decreases-sides : goal.decreases-sides
decreases-sides l = 2 * length l.reader.now + 1

abbrev pub decreases-statement : goal.decreases-statement
decreases-statement l = 2 * length l.reader.now

abbrev pub decreases-statements : goal.decreases-statements
decreases-statements l = 2 * length l.reader.now + 1

-- the statements so far, and those that still come
abbrev pub invariant-statements-loop-kind : goal.invariant-statements-loop-kind
invariant-statements-loop-kind l = StatementsRead l.kind l.fn.reader l.read l.reader

abbrev pub decreases-statements-loop-kind : goal.decreases-statements-loop-kind
decreases-statements-loop-kind l = length l.reader
