use Rattle.std.proofs.Common.{◌≤◌, length, sym, ap, ◌∙◌, subst, arith, refl}
use Rattle.ygg_shape_cells.specs.Terms.{TableStands, IsTable}
use Rattle.ygg_shape_cells.proofs.Singles.{singles_stand, singles_table, read_value, first_is, own_table, first_has}
use Rattle.ygg_shape_cells.specs.RowPlaces.{first, singles}
use Rattle.std.proofs.lemmas.Result.{IfOk-from_err}
use Rattle.ygg_shape_words.specs.ygg_bank_proofs_Widths.{extends_self}
use Rattle.ygg_shape_cells.specs.Making.{selected}
use Rattle.ygg_shape_cells.proofs.Handed.{read_form}
use Rattle.ygg_shape_cells.proofs.row_words.select_word.Goals as goal

pub select-requires-clause-table : goal.select-requires-clause-table
select-requires-clause-table g c =
    subst (TableStands c.args.bank.now) (sym (c.in_ok-table.ensures ∙ ap singles c.as_slice.ensures))
    (singles_stand c.args.bank.now c.args.row.now c.requires.row)

pub bounds-words-0 : goal.bounds-words-0
bounds-words-0 g c =
    let r = c.in_ok-answer.ensures.shape 1 c.requires.row.width
    (subst (IsTable c.args.bank.now 1 c.requires.row.width) (sym (c.in_ok-table.ensures ∙ ap singles c.as_slice.ensures))
    (singles_table c.args.bank.now c.args.row.now c.requires.row)) in
    omega (arith, r.count, ap length c.as_slice-words.ensures)

pub returns-clause-value : goal.returns-clause-value
returns-clause-value g c =
    let r = c.in_ok-answer.ensures.shape 1 c.requires.row.width
    (subst (IsTable c.args.bank.now 1 c.requires.row.width) (sym (c.in_ok-table.ensures ∙ ap singles c.as_slice.ensures))
    (singles_table c.args.bank.now c.args.row.now c.requires.row)) in
    let i = c.requires.row.is in
    let l = c.requires.row.limits in
    let some : 1 ≤ length c.args.row.now = omega (arith, i.count, l.0.0) in
    read_value c.select.new.bank c.args.row.now c.in_ok-answer.answer c.in_ok-table.table c.args.at _ some
    (c.in_ok-table.ensures ∙ ap singles c.as_slice.ensures) c.in_ok-answer.ensures.value r.count
    (ap first (sym c.as_slice-words.ensures) ∙ first_is c.as_slice-words.result.now)

pub returns-clause-shape : goal.returns-clause-shape
returns-clause-shape g c n w p =
    first_has c.select.new.bank w c.in_ok-answer.answer c.as_slice-words.result.now _ c.as_slice-words.ensures
    (c.in_ok-answer.ensures.shape 1 w
    (own_table c.args.bank.now c.args.row.now c.in_ok-table.table c.requires.row n w p (c.in_ok-table.ensures ∙ ap singles c.as_slice.ensures)))

pub returns-clause-nodes : goal.returns-clause-nodes
returns-clause-nodes g c =
    c.in_ok-answer.ensures.nodes ∙ ap (λ z. (selected (g.B.Book.kinds c.args.book.now) z c.args.at c.args.bank.now).nodes)
    (c.in_ok-table.ensures ∙ ap singles c.as_slice.ensures)

pub returns-clause-form : goal.returns-clause-form
returns-clause-form g c =
    read_form (g.B.Book.kinds c.args.book.now) c.args.row.now c.as_slice-words.result.now c.in_ok-answer.answer c.in_ok-table.table c.args.at c.args.bank.now
    (c.in_ok-table.ensures ∙ ap singles c.as_slice.ensures) c.as_slice-words.ensures c.in_ok-answer.ensures.form

pub returns-clause-inputs : goal.returns-clause-inputs
returns-clause-inputs g c = c.in_ok-answer.ensures.inputs

pub returns-clause-keeps : goal.returns-clause-keeps
returns-clause-keeps g c = c.select.ensures.keeps

pub returns-in_err-table-clause-nodes : goal.returns-in_err-table-clause-nodes
returns-in_err-table-clause-nodes g c = IfOk-from_err c.from_residual.result _ c.from_residual.ensures.0

pub returns-in_err-table-clause-form : goal.returns-in_err-table-clause-form
returns-in_err-table-clause-form g c = IfOk-from_err c.from_residual.result _ c.from_residual.ensures.0

pub returns-in_err-table-clause-value : goal.returns-in_err-table-clause-value
returns-in_err-table-clause-value g c = IfOk-from_err c.from_residual.result _ c.from_residual.ensures.0

pub returns-in_err-table-clause-inputs : goal.returns-in_err-table-clause-inputs
returns-in_err-table-clause-inputs g c = IfOk-from_err c.from_residual.result _ c.from_residual.ensures.0

pub returns-in_err-table-clause-shape : goal.returns-in_err-table-clause-shape
returns-in_err-table-clause-shape g c n w h = IfOk-from_err c.from_residual.result _ c.from_residual.ensures.0

pub returns-in_err-table-clause-grows : goal.returns-in_err-table-clause-grows
returns-in_err-table-clause-grows g c = extends_self c.args.bank.now

pub returns-in_err-table-clause-bank : goal.returns-in_err-table-clause-bank
returns-in_err-table-clause-bank g c = c.len.ensures.bank

pub returns-in_err-table-clause-keeps : goal.returns-in_err-table-clause-keeps
returns-in_err-table-clause-keeps g c = λ inputs place within. refl

pub returns-in_err-answer-clause-nodes : goal.returns-in_err-answer-clause-nodes
returns-in_err-answer-clause-nodes g c = IfOk-from_err c.from_residual-in_err-answer.result _ c.from_residual-in_err-answer.ensures.0

pub returns-in_err-answer-clause-form : goal.returns-in_err-answer-clause-form
returns-in_err-answer-clause-form g c = IfOk-from_err c.from_residual-in_err-answer.result _ c.from_residual-in_err-answer.ensures.0

pub returns-in_err-answer-clause-value : goal.returns-in_err-answer-clause-value
returns-in_err-answer-clause-value g c = IfOk-from_err c.from_residual-in_err-answer.result _ c.from_residual-in_err-answer.ensures.0

pub returns-in_err-answer-clause-inputs : goal.returns-in_err-answer-clause-inputs
returns-in_err-answer-clause-inputs g c = IfOk-from_err c.from_residual-in_err-answer.result _ c.from_residual-in_err-answer.ensures.0

pub returns-in_err-answer-clause-shape : goal.returns-in_err-answer-clause-shape
returns-in_err-answer-clause-shape g c n w h = IfOk-from_err c.from_residual-in_err-answer.result _ c.from_residual-in_err-answer.ensures.0

pub returns-in_err-answer-clause-grows : goal.returns-in_err-answer-clause-grows
returns-in_err-answer-clause-grows g c = c.select.ensures.grows

pub returns-in_err-answer-clause-keeps : goal.returns-in_err-answer-clause-keeps
returns-in_err-answer-clause-keeps g c = c.select.ensures.keeps

pub returns-in_err-answer-clause-bank : goal.returns-in_err-answer-clause-bank
returns-in_err-answer-clause-bank g c = c.select.ensures.bank
