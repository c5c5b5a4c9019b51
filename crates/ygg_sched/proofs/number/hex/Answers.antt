use Rattle.std.proofs.Common.{rules, arith}
use Rattle.ygg_sched.proofs.Hexadecimal.{room}
use Rattle.ygg_sched.proofs.number.hex.Goals as goal

pub overflow_mul-number : goal.overflow_mul-number
overflow_mul-number c =
    let r = room c.loop-byte.byte-index c.loop-byte.number c.in-Some.digit (omega (arith, c.loop-byte-test.true, c.requires)) c.loop-byte.invariant.0
    c.in-Some.ensures.small in
    omega (arith, r)

pub overflow_add-number : goal.overflow_add-number
overflow_add-number c =
    let r = room c.loop-byte.byte-index c.loop-byte.number c.in-Some.digit (omega (arith, c.loop-byte-test.true, c.requires)) c.loop-byte.invariant.0
    c.in-Some.ensures.small in
    first_of (omega (arith, r, c.from.ensures), search (rules, r))
