use Rattle.ygg_gates.proofs.Numbers.{near_goes}
use Rattle.ygg_gates.proofs.shifts.near.Goals as goal

pub loop-count-preserved : goal.loop-count-preserved
loop-count-preserved c =
    near_goes c.args.width c.args.amount.now c.loop-count.count c.loop-count.rest c.loop-count-test.true c.if-rest-gt0.true c.loop-count.invariant
