use Rattle.std.proofs.Common.{◌<◌, ℕ}
use Rattle.ygg_watch.specs.Trail.{IsAssigned}
use Rattle.ygg_watch.proofs.picking.pick.Given as goal

abbrev pub invariant-loop-var : goal.invariant-loop-var
invariant-loop-var g l = (v : ℕ) → v < l.var → IsAssigned (g.P.Propagate.state l.propagation).trail v
