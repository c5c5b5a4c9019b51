use Rattle.std.proofs.Common.{◌++◌, ap}
use Rattle.ygg_shape_cells.specs.Pairs.{without}
use Rattle.ygg_shape_cells.proofs.PairSteps.{without_goes, without_done}
use Rattle.ygg_shape_cells.proofs.pairs.without.Goals as goal

pub loop-pair-init : goal.loop-pair-init
loop-pair-init c = record { is = ap (λ z. z ++ without c.args.bank.now c.args.test c.args.pairs.now) c.new-found.ensures.items }

pub put_without-requires : goal.put_without-requires
put_without-requires c = c.requires c.loop-pair.pair-index _ c.loop-pair-test.true

pub loop-pair-preserved : goal.loop-pair-preserved
loop-pair-preserved c =
    without_goes c.args.bank.now c.args.test c.args.pairs.now c.loop-pair.pair-index _ c.loop-pair.found.items c.put_without.new.found.items
    c.loop-pair-test.true c.in_ok-put_without.ensures c.loop-pair.invariant

pub returns : goal.returns
returns c =
    without_done c.args.bank.now c.args.test c.args.pairs.now c.loop-pair.pair-index c.loop-pair.found.items c.loop-pair-test.false c.loop-pair.invariant
