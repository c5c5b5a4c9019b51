use Rattle.std.proofs.Common.{rules, ◌≡◌, arith}
use Rattle.ygg_sched.proofs.Joining.{row_grows}
use Rattle.ygg_sched.proofs.value_writing.put_row.Goals as goal

pub loop-at-preserved : goal.loop-at-preserved
loop-at-preserved c =
    let first : c.from.result ≡ c.loop-at.at = search (rules, c.from.ensures) in
    let place : c.place.result.bits ≡ c.loop-at.at = search (rules, c.place.ensures.bits, c.from-in-loop-at.ensures) in
    row_grows c.args.out.now c.loop-at.out c.put_separator.new.out c.put_word.new.out c.args.row.now.width c.args.row.now.words c.loop-at.at c.from.result
    c.place.result.bits c.row_read.result (omega (arith, c.requires, c.loop-at-test.true)) c.loop-at.invariant first c.in_ok-put_separator.ensures place
    c.row_read.ensures c.in_ok-put_word.ensures
