use borrow.Author.Count.{below_more}
use Rattle.ygg_watch.specs.Trail.{IsAssigned}
use Rattle.ygg_watch.proofs.PickLemmas.{value_assigned}
use Rattle.ygg_watch.proofs.picking.pick.Goals as goal

pub loop-var-preserved : goal.loop-var-preserved
loop-var-preserved g c =
    let trail = (g.P.Propagate.state c.args.propagation.now).trail in
    below_more (IsAssigned trail) c.loop-var.var c.loop-var.invariant (value_assigned trail c.loop-var.var _ c.in-Some-assigned.ensures.some)
