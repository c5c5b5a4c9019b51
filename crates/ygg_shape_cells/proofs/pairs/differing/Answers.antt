use Rattle.ygg_shape_cells.proofs.PairSteps.{differing_done, differing_goes}
use Rattle.ygg_shape_cells.proofs.pairs.differing.Goals as goal

pub returns : goal.returns
returns c = differing_done c.args.one.now c.args.two.now c.loop-place.place c.loop-place.pairs.items c.loop-place-test.false c.loop-place.invariant

pub loop-place-preserved : goal.loop-place-preserved
loop-place-preserved c =
    differing_goes c.args.one.now c.args.two.now c.loop-place.place _ c.loop-place.pairs.items c.put_unequal.new.pairs.items c.loop-place-test.true c.requires
    c.in_ok-put_unequal.ensures c.loop-place.invariant
