use Rattle.std.proofs.Common.{◌<◌, length, sym, ap, ◌∙◌, arith}
use Rattle.ygg_value.specs.Number.{Number}
use Rattle.ygg_value.specs.Shapes.{shape_of}
use Rattle.ygg_eval_expr.proofs.Fitting.{more_than_none, row_word, table_word}
use Rattle.ygg_eval_expr.proofs.Written.{all_written, word_kept, row_written, table_written, within_written, table_kept, table_row}
use Rattle.ygg_eval_expr.proofs.write.write_part.Goals as goal

pub row_write-requires : goal.row_write-requires
row_write-requires c =
    let some = more_than_none (length c.args.indices.now) c.if-is_empty.ensures in
    ap (λ (n : Number). n.width) c.word_in.ensures ∙ row_word c.args.whole.now c.in-Row.row (length c.args.indices.now) c.args.part c.requires c.in-Row.is some

pub write_row-requires : goal.write_row-requires
write_row-requires c = table_row c.args.whole.now c.in-Table.table (length c.args.indices.now) c.args.part c.requires c.in-Table.is c.if-indices-eq1.true

pub write_word-requires-clause-width : goal.write_word-requires-clause-width
write_word-requires-clause-width c =
    let some = more_than_none (length c.args.indices.now) c.if-is_empty.ensures in
    let more : 1 < length c.args.indices.now = omega arith in
    ap (λ (n : Number). n.width) c.word_in-in-Table.ensures
    ∙ table_word c.args.whole.now c.in-Table.table (length c.args.indices.now) c.args.part c.requires c.in-Table.is more

pub write_word-requires-clause-same : goal.write_word-requires-clause-same
write_word-requires-clause-same c = sym (c.shape_of-shape.ensures.shape ∙ ap shape_of c.in-Table.is)

pub returns-then-is_empty-clause-ok : goal.returns-then-is_empty-clause-ok
returns-then-is_empty-clause-ok c = all_written c.args.whole.now (record { width = 1; bits = 0 }) c.args.part c.args.indices.now c.if-is_empty.ensures

pub returns-in-Word-clause-ok : goal.returns-in-Word-clause-ok
returns-in-Word-clause-ok c =
    word_kept c.args.whole.now c.index-indices-0.result c.args.part c.in-Word.field-0 c.args.indices.now c.in-Word.is c.if-is_empty.ensures

pub returns-in-Row-clause-ok : goal.returns-in-Row-clause-ok
returns-in-Row-clause-ok c =
    row_written c.args.whole.now c.index-indices-0.result c.args.part c.in-Row.row c.row_write.new.row c.word_in.result c.args.indices.now
    c.in-Row.is c.if-is_empty.ensures c.index-indices-0.is c.word_in.ensures c.row_write.ensures.value

pub returns-then-indices-eq1-clause-ok : goal.returns-then-indices-eq1-clause-ok
returns-then-indices-eq1-clause-ok c =
    table_written c.args.whole.now c.index-indices-0.result c.args.part c.in-Table.table c.write_row.new.table c.args.indices.now
    c.in-Table.is c.if-indices-eq1.true c.index-indices-0.is c.write_row.ensures

pub returns-clause-ok : goal.returns-clause-ok
returns-clause-ok c =
    let some = more_than_none (length c.args.indices.now) c.if-is_empty.ensures in
    let more : 1 < length c.args.indices.now = omega arith in
    within_written c.args.whole.now c.index-indices-0.result c.args.part c.write_word.result c.in-Table.table c.write_word.new.table
    c.index-indices-1.result c.word_in-in-Table.result c.args.indices.now c.in-Table.is more c.index-indices-0.is c.index-indices-1.is
    c.word_in-in-Table.ensures c.write_word.ensures.ok

pub returns-clause-err : goal.returns-clause-err
returns-clause-err c =
    table_kept c.args.whole.now c.index-indices-0.result c.args.part c.write_word.result c.in-Table.table c.write_word.new.table c.in-Table.is
    c.write_word.ensures.err
