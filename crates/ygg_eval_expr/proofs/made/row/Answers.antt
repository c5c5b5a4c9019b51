use Rattle.std.proofs.Common.{ap, ◌∙◌, length, replicate, arith}
use Rattle.ygg_value.specs.Number.{Number}
use Rattle.ygg_eval_expr.proofs.Rows.{row_begun, row_more, row_ended}
use Rattle.ygg_eval_expr.proofs.made.row.Goals as goal

pub loop-i-init : goal.loop-i-init
loop-i-init c = row_begun c.args.words.now c.index-words-0.result c.in_ok-row.row c.requires.some c.index-words-0.is
    (c.in_ok-row.ensures ∙ ap (λ (n : Number). record { width = n.width; words = replicate (length c.args.words.now) 0 }) c.first.view_is)

pub loop-i-preserved : goal.loop-i-preserved
loop-i-preserved c = row_more c.args.words.now c.loop-i.i c.index-words-i.result c.loop-i.row c.row_write.new.row c.loop-i-test.true
    c.index-words-i.is c.loop-i.invariant c.row_write.ensures.value

pub returns : goal.returns
returns c = row_ended c.args.words.now c.loop-i.i c.loop-i.row c.requires.some (omega arith) c.loop-i.invariant
