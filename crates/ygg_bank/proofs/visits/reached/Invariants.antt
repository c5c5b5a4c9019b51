use Rattle.std.proofs.Common.{reverse}
use Rattle.ygg_bank.proofs.Visiting.{Visiting}
use Rattle.ygg_bank.proofs.visits.reached.Given as goal

abbrev pub invariant-loop-place : goal.invariant-loop-place
invariant-loop-place l = Visiting l.bank l.fn.term l.below l.pending (reverse l.places.items)

abbrev pub decreases-loop-place : goal.decreases-loop-place
decreases-loop-place l = l.below
