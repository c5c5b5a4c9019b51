use Rattle.std.proofs.Common.{arith}
use Rattle.ygg_eval_places.proofs.Rooms.{rest_places, no_places}
use Rattle.ygg_eval_places.proofs.unrolled.+room.Goals as goal

pub rooms-loop-s-preserved : goal.rooms-loop-s-preserved
rooms-loop-s-preserved g t c =
    let all = c.args.all.now in
    let rest = rest_places (g.W.Places.means c.args.machine.now).space all c.loop-s.s-index c.s-item.result c.s-item.result c.loop-s-test.true c.s-item.is in
    let one = c.in_ok-one.ensures in
    let sum = c.in_ok-sum.ensures in
    let before = c.loop-s.invariant in
    omega (arith, rest, one, sum, before)

pub rooms-returns : goal.rooms-returns
rooms-returns g t c =
    let none = no_places (g.W.Places.means c.args.machine.now).space c.args.all.now c.loop-s.s-index c.loop-s-test.false in
    let before = c.loop-s.invariant in
    omega (arith, none, before)
