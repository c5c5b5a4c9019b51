use Rattle.ygg_gates.proofs.Steps.{free_goes}
use Rattle.ygg_gates.proofs.pairs.free_bits.Goals as goal

pub loop-preserved : goal.loop-preserved
loop-preserved c =
    rw c.in_ok-push.ensures.ok
    (free_goes c.args.width c.args.gates.now.items c.loop.counter c.loop.bits c.loop.gates.items c.in_ok-bit.bit c.place.new.gates.items c.loop-test.true
    c.in_ok-bit.ensures.gates c.in_ok-bit.ensures.value c.loop.invariant)
