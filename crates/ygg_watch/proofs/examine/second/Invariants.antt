use Rattle.std.proofs.Common.{◌≢◌, Contains, IfSome}
use Rattle.ygg_watch.proofs.examine.second.Given as goal

abbrev pub invariant-loop-lit : goal.invariant-loop-lit
invariant-loop-lit l = IfSome l.best (λ y. Contains l.clause y × (y ≢ l.first))
