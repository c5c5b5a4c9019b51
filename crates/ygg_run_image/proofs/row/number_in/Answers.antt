use Rattle.std.proofs.Common.{arith, rules}
use Rattle.ygg_run_image.proofs.Numbers.{byte_more}
use Rattle.ygg_run_image.proofs.row.number_in.Goals as goal

pub overflow_mul-number : goal.overflow_mul-number
overflow_mul-number c =
    let bound = byte_more c.loop-byte.byte-index c.loop-byte.number (omega (arith, c.loop-byte-test.true, c.requires)) c.loop-byte.invariant.1 in
    search rules

pub overflow_add-number : goal.overflow_add-number
overflow_add-number c =
    let bound = byte_more c.loop-byte.byte-index c.loop-byte.number (omega (arith, c.loop-byte-test.true, c.requires)) c.loop-byte.invariant.1 in
    search rules
