use Rattle.ygg_shape.proofs.Joining.{joins_can}
use Rattle.ygg_shape.proofs.joins.make_joins.Goals as goal

pub pick-requires-clause-pick : goal.pick-requires-clause-pick
pick-requires-clause-pick g c =
    joins_can c.args.bank.now c.loop-join.bank c.args.joins.now c.loop-join.join-index _ c.loop-join.invariant.grows c.requires.joins c.loop-join-test.true
