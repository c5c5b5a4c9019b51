use Rattle.std.proofs.Common.{◌≡◌, [], ◌∷◌, ◌++◌, length, ap, ◌∙◌, refl}
use Rattle.ygg_shape_cells.proofs.Singles.{
  store_ready,
  table_ready,
  row_ready,
  firsts_ready,
  write_value,
  written,
  counts,
  own_table,
  own_row,
  firsts_shaped,
  singles_count,
}
use Rattle.ygg_shape_cells.specs.RowPlaces.{single, singles}
use Rattle.std.proofs.lemmas.Result.{IfOk-from_err}
use Rattle.ygg_shape_words.specs.ygg_bank_proofs_Widths.{extends_self}
use Rattle.ygg_shape_cells.proofs.Handed.{on_all, stored_as, write_form}
use Rattle.ygg_shape_cells.proofs.row_words.store_word.Goals as goal

pub store-requires-clause-table : goal.store-requires-clause-table
store-requires-clause-table g c =
    store_ready c.args.bank.now c.args.row.now c.push.new.self c.in_ok-table.table c.args.word (c.in_ok-table.ensures ∙ ap singles c.as_slice.ensures)
    (c.in_ok-push.ensures.ok ∙ ap (λ z. z ++ c.args.word ∷ []) c.new-single.ensures) c.requires.row

pub firsts-requires : goal.firsts-requires
firsts-requires g c =
    let one : c.push.new.self ≡ single c.args.word = c.in_ok-push.ensures.ok ∙ ap (λ z. z ++ c.args.word ∷ []) c.new-single.ensures in
    firsts_ready c.store.new.bank c.requires.row.stands.width c.in_ok-answer.answer c.as_slice-2.result.now c.as_slice-2.ensures
    (c.in_ok-answer.ensures.shape 1 c.requires.row.stands.width
    (table_ready c.args.bank.now c.args.row.now c.in_ok-table.table c.requires.row.stands (c.in_ok-table.ensures ∙ ap singles c.as_slice.ensures))
    (row_ready c.args.bank.now c.args.row.now c.push.new.self c.args.word c.requires.row one))

pub returns-clause-value : goal.returns-clause-value
returns-clause-value g c =
    let one : c.push.new.self ≡ single c.args.word = c.in_ok-push.ensures.ok ∙ ap (λ z. z ++ c.args.word ∷ []) c.new-single.ensures in
    let w = c.requires.row.stands.width in
    let t = c.in_ok-answer.ensures.shape 1 w (table_ready c.args.bank.now c.args.row.now c.in_ok-table.table c.requires.row.stands
    (c.in_ok-table.ensures ∙ ap singles c.as_slice.ensures))
    (row_ready c.args.bank.now c.args.row.now c.push.new.self c.args.word c.requires.row one) in
    written c.store.new.bank c.args.row.now c.in_ok-answer.answer c.as_slice-2.result.now c.args.at c.args.word c.firsts.result c.firsts.ensures
    c.as_slice-2.ensures
    (write_value c.store.new.bank c.args.row.now c.in_ok-table.table c.in_ok-answer.answer c.args.at c.args.word c.push.new.self
    (c.in_ok-table.ensures ∙ ap singles c.as_slice.ensures) one
    c.in_ok-answer.ensures.value (counts c.store.new.bank 1 w c.in_ok-answer.answer t.rows))

pub returns-clause-shape : goal.returns-clause-shape
returns-clause-shape g c n w p =
    let one : c.push.new.self ≡ single c.args.word = c.in_ok-push.ensures.ok ∙ ap (λ z. z ++ c.args.word ∷ []) c.new-single.ensures in
    let table : c.in_ok-table.table ≡ singles c.args.row.now = c.in_ok-table.ensures ∙ ap singles c.as_slice.ensures in
    let t = c.in_ok-answer.ensures.shape 1 w (own_table c.args.bank.now c.args.row.now c.in_ok-table.table c.requires.row.stands n w p table)
    (own_row c.args.bank.now c.args.row.now c.push.new.self c.args.word c.requires.row n w p one) in
    firsts_shaped c.store.new.bank n w c.in_ok-answer.answer c.as_slice-2.result.now c.firsts.result c.firsts.ensures c.as_slice-2.ensures
    (c.in_ok-answer.ensures.count ∙ ap length table ∙ singles_count c.args.row.now ∙ p.count) t.rows

pub returns-clause-nodes : goal.returns-clause-nodes
returns-clause-nodes g c =
    on_all c.firsts.result (c.in_ok-answer.ensures.nodes ∙ ap (λ o. o.nodes) (stored_as (g.B.Book.kinds c.args.book.now) c.args.row.now c.push.new.self
    c.in_ok-table.table c.args.at c.args.word c.args.bank.now (c.in_ok-table.ensures ∙ ap singles c.as_slice.ensures)
    (c.in_ok-push.ensures.ok ∙ ap (λ z. z ++ c.args.word ∷ []) c.new-single.ensures)))

pub returns-clause-form : goal.returns-clause-form
returns-clause-form g c =
    write_form (g.B.Book.kinds c.args.book.now) c.args.row.now c.push.new.self c.in_ok-table.table c.in_ok-answer.answer c.as_slice-2.result.now c.args.at
    c.args.word c.args.bank.now c.firsts.result (c.in_ok-table.ensures ∙ ap singles c.as_slice.ensures)
    (c.in_ok-push.ensures.ok ∙ ap (λ z. z ++ c.args.word ∷ []) c.new-single.ensures) c.as_slice-2.ensures c.in_ok-answer.ensures.form c.firsts.ensures

pub returns-clause-inputs : goal.returns-clause-inputs
returns-clause-inputs g c = on_all c.firsts.result c.in_ok-answer.ensures.inputs

pub returns-clause-keeps : goal.returns-clause-keeps
returns-clause-keeps g c = c.store.ensures.keeps

pub returns-in_err-table-clause-nodes : goal.returns-in_err-table-clause-nodes
returns-in_err-table-clause-nodes g c = IfOk-from_err c.from_residual.result _ c.from_residual.ensures.0

pub returns-in_err-table-clause-form : goal.returns-in_err-table-clause-form
returns-in_err-table-clause-form g c = IfOk-from_err c.from_residual.result _ c.from_residual.ensures.0

pub returns-in_err-table-clause-value : goal.returns-in_err-table-clause-value
returns-in_err-table-clause-value g c = IfOk-from_err c.from_residual.result _ c.from_residual.ensures.0

pub returns-in_err-table-clause-inputs : goal.returns-in_err-table-clause-inputs
returns-in_err-table-clause-inputs g c = IfOk-from_err c.from_residual.result _ c.from_residual.ensures.0

pub returns-in_err-table-clause-shape : goal.returns-in_err-table-clause-shape
returns-in_err-table-clause-shape g c n w h = IfOk-from_err c.from_residual.result _ c.from_residual.ensures.0

pub returns-in_err-table-clause-grows : goal.returns-in_err-table-clause-grows
returns-in_err-table-clause-grows g c = extends_self c.args.bank.now

pub returns-in_err-table-clause-bank : goal.returns-in_err-table-clause-bank
returns-in_err-table-clause-bank g c = c.len.ensures.bank

pub returns-in_err-table-clause-keeps : goal.returns-in_err-table-clause-keeps
returns-in_err-table-clause-keeps g c = λ inputs place within. refl

pub returns-in_err-push-clause-nodes : goal.returns-in_err-push-clause-nodes
returns-in_err-push-clause-nodes g c = IfOk-from_err c.from_residual-in_err-push.result _ c.from_residual-in_err-push.ensures.0

pub returns-in_err-push-clause-form : goal.returns-in_err-push-clause-form
returns-in_err-push-clause-form g c = IfOk-from_err c.from_residual-in_err-push.result _ c.from_residual-in_err-push.ensures.0

pub returns-in_err-push-clause-value : goal.returns-in_err-push-clause-value
returns-in_err-push-clause-value g c = IfOk-from_err c.from_residual-in_err-push.result _ c.from_residual-in_err-push.ensures.0

pub returns-in_err-push-clause-inputs : goal.returns-in_err-push-clause-inputs
returns-in_err-push-clause-inputs g c = IfOk-from_err c.from_residual-in_err-push.result _ c.from_residual-in_err-push.ensures.0

pub returns-in_err-push-clause-shape : goal.returns-in_err-push-clause-shape
returns-in_err-push-clause-shape g c n w h = IfOk-from_err c.from_residual-in_err-push.result _ c.from_residual-in_err-push.ensures.0

pub returns-in_err-push-clause-grows : goal.returns-in_err-push-clause-grows
returns-in_err-push-clause-grows g c = extends_self c.args.bank.now

pub returns-in_err-push-clause-bank : goal.returns-in_err-push-clause-bank
returns-in_err-push-clause-bank g c = c.len.ensures.bank

pub returns-in_err-push-clause-keeps : goal.returns-in_err-push-clause-keeps
returns-in_err-push-clause-keeps g c = λ inputs place within. refl

pub returns-in_err-answer-clause-nodes : goal.returns-in_err-answer-clause-nodes
returns-in_err-answer-clause-nodes g c = IfOk-from_err c.from_residual-in_err-answer.result _ c.from_residual-in_err-answer.ensures.0

pub returns-in_err-answer-clause-form : goal.returns-in_err-answer-clause-form
returns-in_err-answer-clause-form g c = IfOk-from_err c.from_residual-in_err-answer.result _ c.from_residual-in_err-answer.ensures.0

pub returns-in_err-answer-clause-value : goal.returns-in_err-answer-clause-value
returns-in_err-answer-clause-value g c = IfOk-from_err c.from_residual-in_err-answer.result _ c.from_residual-in_err-answer.ensures.0

pub returns-in_err-answer-clause-inputs : goal.returns-in_err-answer-clause-inputs
returns-in_err-answer-clause-inputs g c = IfOk-from_err c.from_residual-in_err-answer.result _ c.from_residual-in_err-answer.ensures.0

pub returns-in_err-answer-clause-shape : goal.returns-in_err-answer-clause-shape
returns-in_err-answer-clause-shape g c n w h = IfOk-from_err c.from_residual-in_err-answer.result _ c.from_residual-in_err-answer.ensures.0

pub returns-in_err-answer-clause-grows : goal.returns-in_err-answer-clause-grows
returns-in_err-answer-clause-grows g c = c.store.ensures.grows

pub returns-in_err-answer-clause-keeps : goal.returns-in_err-answer-clause-keeps
returns-in_err-answer-clause-keeps g c = c.store.ensures.keeps

pub returns-in_err-answer-clause-bank : goal.returns-in_err-answer-clause-bank
returns-in_err-answer-clause-bank g c = c.store.ensures.bank
