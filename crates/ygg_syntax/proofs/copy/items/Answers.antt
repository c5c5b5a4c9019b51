use Rattle.ygg_syntax.proofs.Copied.{copied, one_copied, all_copied}
use Rattle.ygg_syntax.proofs.copy.items.Goals as goal

pub loop-one-preserved : goal.loop-one-preserved
loop-one-preserved g c =
    let step = c.in-Ok.ensures in
    one_copied c.args.all.now c.loop-one.one-index c.one-item.result step.0 c.loop-one.copies c.loop-one-test.true c.one-item.is
    (copied c.duplicate.ensures step.1) step.2 c.loop-one.invariant

pub returns : goal.returns
returns g c = all_copied c.args.all.now c.loop-one.one-index c.loop-one.copies c.loop-one-test.false c.loop-one.invariant
