use Rattle.std.proofs.Common.{◌*◌, sym, map, arith}
use Rattle.ygg_meaning_laws.specs.Direct.{room_of, total}
use Rattle.ygg_sym_runs.proofs.Rooms.{places, places_for, counts_as, counts_product, rest_places, no_places, counts_none}
use Rattle.ygg_sym_runs.proofs.unrolled.+room.Goals as goal

pub statement_room-returns-in_ok-one-in-For : goal.statement_room-returns-in_ok-one-in-For
statement_room-returns-in_ok-one-in-For g t c =
    let space = (g.W.SymLower.means c.args.machine.now).space in
    let n = c.in-For.n in
    let each = c.in-For.each in
    let room = room_of space each in
    counts_as (n.value * room) _ c.checked_mul.result
    (sym (places_for space c.args.s.now c.in-For.field-0 c.in-For.field-1 n each c.in-For.is))
    (counts_product c.checked_mul.result c.in_ok-one-in-For.one n.value room c.checked_mul.ensures c.in_ok-one-in-For.ensures)

pub rooms-loop-s-preserved : goal.rooms-loop-s-preserved
rooms-loop-s-preserved g t c =
    let all = c.args.all.now in
    let rest = rest_places (g.W.SymLower.means c.args.machine.now).space all c.loop-s.s-index c.s-item.result c.s-item.result c.loop-s-test.true c.s-item.is in
    let one = c.in_ok-one.ensures in
    let sum = c.in_ok-sum.ensures.1 in
    let before = c.loop-s.invariant in
    omega (arith, rest, one, sum, before)

pub rooms-returns-in_err-one : goal.rooms-returns-in_err-one
rooms-returns-in_err-one g t c =
    let space = (g.W.SymLower.means c.args.machine.now).space in
    let all = c.args.all.now in
    let rest = rest_places space all c.loop-s.s-index c.s-item.result c.s-item.result c.loop-s-test.true c.s-item.is in
    let over = c.in_err-one.ensures in
    let before = c.loop-s.invariant in
    counts_none (total (map (places space) all)) c.from_residual.result c.from_residual.ensures (omega (arith, rest, over, before))

pub rooms-returns-in_err-sum : goal.rooms-returns-in_err-sum
rooms-returns-in_err-sum g t c =
    let space = (g.W.SymLower.means c.args.machine.now).space in
    let all = c.args.all.now in
    let rest = rest_places space all c.loop-s.s-index c.s-item.result c.s-item.result c.loop-s-test.true c.s-item.is in
    let one = c.in_ok-one.ensures in
    let over = c.in_err-sum.ensures in
    let before = c.loop-s.invariant in
    counts_none (total (map (places space) all)) c.from_residual-in_err-sum.result c.from_residual-in_err-sum.ensures (omega (arith, rest, one, over, before))

pub rooms-returns : goal.rooms-returns
rooms-returns g t c =
    let none = no_places (g.W.SymLower.means c.args.machine.now).space c.args.all.now c.loop-s.s-index c.loop-s-test.false in
    let before = c.loop-s.invariant in
    omega (arith, none, before)
