use Rattle.std.proofs.Common.{◌≢◌, take, Contains}
use Rattle.ygg_cnf.specs.declared.lit.Lit.{Lit}
use Rattle.ygg_watch.specs.Propagation.{IsFalse}
use Rattle.ygg_watch.proofs.visit.replacement.Given as goal

abbrev pub invariant-loop-lit : goal.invariant-loop-lit
invariant-loop-lit l = (y : Lit) → Contains (take l.lit-index l.clause) y → y ≢ l.other → IsFalse l.trail.entries.items y
