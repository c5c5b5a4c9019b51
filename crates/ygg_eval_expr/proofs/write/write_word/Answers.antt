use Rattle.std.proofs.Common.{sym, ap, ◌∙◌, subst, length, refl}
use Rattle.std.proofs.lemmas.List.{length-replicate}
use Rattle.ygg_value.specs.Number.{Digits}
use Rattle.ygg_value.specs.Shapes.{IsShape}
use Rattle.ygg_value.specs.Values.{row_write, table_write}
use Rattle.ygg_eval_expr.proofs.Written.{table_shape, on_ok_refused, on_err_kept}
use Rattle.ygg_eval_expr.proofs.write.write_word.Goals as goal

pub zero_row-requires : goal.zero_row-requires
zero_row-requires c =
    let within = subst IsShape c.in-Table.is c.requires.shape in
    (within.1, within.2)

pub table_read-requires-clause-width : goal.table_read-requires-clause-width
table_read-requires-clause-width c =
    let same = table_shape (length c.args.table.now.rows) c.args.table.now.words c.args.table.now.width c.in-Table.rows c.in-Table.words
    c.in-Table.width (c.requires.same ∙ c.in-Table.is) in
    ap (λ (r : Digits). r.width) c.in_ok-row-in-Table.ensures ∙ same.1

pub table_read-requires-clause-words : goal.table_read-requires-clause-words
table_read-requires-clause-words c =
    let same = table_shape (length c.args.table.now.rows) c.args.table.now.words c.args.table.now.width c.in-Table.rows c.in-Table.words
    c.in-Table.width (c.requires.same ∙ c.in-Table.is) in
    ap (λ (r : Digits). length r.words) c.in_ok-row-in-Table.ensures ∙ length-replicate c.in-Table.words 0 ∙ same.0

pub row_write-requires : goal.row_write-requires
row_write-requires c = c.requires.width ∙ sym (ap (λ (r : Digits). r.width) c.table_read.ensures.value)

pub table_write-requires-clause-width : goal.table_write-requires-clause-width
table_write-requires-clause-width c =
    ap (λ (r : Digits). r.width) c.row_write.ensures.value ∙ ap (λ (r : Digits). r.width) c.table_read.ensures.value

pub table_write-requires-clause-words : goal.table_write-requires-clause-words
table_write-requires-clause-words c =
    let same = table_shape (length c.args.table.now.rows) c.args.table.now.words c.args.table.now.width c.in-Table.rows c.in-Table.words
    c.in-Table.width (c.requires.same ∙ c.in-Table.is) in
    c.row_write.ensures.words ∙ c.table_read.ensures.words ∙ ap (λ (r : Digits). length r.words) c.in_ok-row-in-Table.ensures
    ∙ length-replicate c.in-Table.words 0 ∙ same.0

pub returns-clause-ok : goal.returns-clause-ok
returns-clause-ok c = c.table_write.ensures.value
    ∙ ap (table_write c.args.table.now c.args.at.bits)
    (c.row_write.ensures.value ∙ ap (λ (r : Digits). row_write r c.args.within.bits c.args.word) c.table_read.ensures.value)

pub returns-in_err-row-in-Table-clause-ok : goal.returns-in_err-row-in-Table-clause-ok
returns-in_err-row-in-Table-clause-ok c = on_ok_refused c.from_residual.result _ c.from_residual.ensures.0

pub returns-in_err-row-in-Table-clause-err : goal.returns-in_err-row-in-Table-clause-err
returns-in_err-row-in-Table-clause-err c = on_err_kept c.from_residual.result refl
