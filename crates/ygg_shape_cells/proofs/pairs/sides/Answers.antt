use Rattle.std.proofs.Common.{◌++◌, ap}
use Rattle.ygg_shape_cells.specs.Pairs.{sides}
use Rattle.ygg_shape_cells.proofs.PairSteps.{sides_goes, sides_done}
use Rattle.ygg_shape_cells.proofs.pairs.sides.Goals as goal

pub loop-pair-init : goal.loop-pair-init
loop-pair-init c = record { is = ap (λ z. z ++ sides c.args.bank.now c.args.test c.args.value c.args.pairs.now) c.new-found.ensures.items }

pub put_sides-requires : goal.put_sides-requires
put_sides-requires c = c.requires c.loop-pair.pair-index _ c.loop-pair-test.true

pub loop-pair-preserved : goal.loop-pair-preserved
loop-pair-preserved c =
    sides_goes c.args.bank.now c.args.test c.args.value c.args.pairs.now c.loop-pair.pair-index _ c.loop-pair.found.items c.put_sides.new.found.items
    c.loop-pair-test.true c.in_ok-put_sides.ensures c.loop-pair.invariant

pub returns : goal.returns
returns c =
    sides_done c.args.bank.now c.args.test c.args.value c.args.pairs.now c.loop-pair.pair-index c.loop-pair.found.items
    c.loop-pair-test.false c.loop-pair.invariant
