use Rattle.std.proofs.Common.{length, ap, ◌∙◌, arith}
use Rattle.ygg_shape_cells.proofs.Handed.{firsts_more}
use Rattle.ygg_shape_cells.proofs.row_words.firsts.Goals as goal

pub loop-single-preserved : goal.loop-single-preserved
loop-single-preserved c =
    firsts_more c.args.table.now c.loop-single.single-index c.single-item.result c.as_slice-words.result.now c.loop-single.row c.push.new.self
    c.loop-single-test.true c.single-item.is c.as_slice-words.ensures c.loop-single.invariant c.in_ok-push.ensures.ok

pub bounds-words-0 : goal.bounds-words-0
bounds-words-0 c =
    omega (arith, c.requires c.loop-single.single-index c.single-item.result c.loop-single-test.true, ap length (c.as_slice-words.ensures ∙ c.single-item.is))
