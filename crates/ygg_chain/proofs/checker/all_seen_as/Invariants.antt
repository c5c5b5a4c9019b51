use Rattle.std.proofs.Common.{take, All}
use Rattle.ygg_chain.specs.Held.{InSetAs}
use Rattle.ygg_chain.proofs.checker.all_seen_as.Given as goal

abbrev pub invariant-loop-lit : goal.invariant-loop-lit
invariant-loop-lit l = All (InSetAs l.variables l.seen) (take l.lit-index l.clause)
