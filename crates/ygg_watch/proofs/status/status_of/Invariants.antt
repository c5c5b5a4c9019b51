use Rattle.ygg_watch.proofs.StatusLemmas.{IsPart}
use Rattle.ygg_watch.proofs.status.status_of.Given as goal

abbrev pub invariant-loop-lit : goal.invariant-loop-lit
invariant-loop-lit l = IsPart l.clause l.trail.entries.items l.lit-index l.free
