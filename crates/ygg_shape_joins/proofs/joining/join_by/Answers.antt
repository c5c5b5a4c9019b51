use Rattle.ygg_shape_words.specs.ygg_bank_proofs_Widths.{extends_self}
use Rattle.ygg_shape_words.proofs.Fit.{can_pick}
use Rattle.ygg_shape_cells.proofs.Wider.{alike_words, alike_tables, tables_alike_wider, alike_rows, rows_alike_wider}
use Rattle.std.proofs.Common.{sym, ap, ◌∙◌, ◌≡◌, IfOk, subst}
use Rattle.std.proofs.lemmas.Result.{IfOk-from_err}
use Rattle.ygg_shape_cells.proofs.Handed.{on_all}
use Rattle.ygg_shape_joins.proofs.JoinedAnswers.{joined_nodes, joined_form, unlike_words, unlike_rows, unlike_tables}
use Rattle.ygg_shape_cells.specs.declared.terms.SymValue.TheVariants.{Word, Row, Table}
use Rattle.ygg_shape_joins.proofs.joining.join_by.Goals.{
  in_default-via-in-Word+in_default,
  in_default-via-in-Row+in_default,
  in_default-via-in-Table+in_default,
}
use Rattle.ygg_shape_words.specs.ygg_bank.Makes.{Out, pure}
use Rattle.ygg_shape_joins.specs.Joining.{joined}
use Rattle.ygg_shape_cells.specs.declared.terms.SymValue.{SymValue}
use Rattle.ygg_shape_joins.proofs.joining.join_by.Goals as goal

pub join_word-requires-clause-pick : goal.join_word-requires-clause-pick
join_word-requires-clause-pick g c =
    let w = alike_words c.args.bank.now c.args.yes.now c.args.no.now c.in-Word-Word.yes c.in-Word-Word.no c.requires.values c.in-Word-Word.is-0
    c.in-Word-Word.is-1 in
    can_pick c.args.bank.now c.args.test c.in-Word-Word.yes c.in-Word-Word.no w.width c.requires.test w.one_has w.two_has

pub join_rows-requires-clause-rows : goal.join_rows-requires-clause-rows
join_rows-requires-clause-rows g c =
    tables_alike_wider c.args.bank.now c.args.bank.now c.in-Table-Table.yes c.in-Table-Table.no c.as_slice-in-Table-Table.result.now
    c.as_slice-in-Table-Table-2.result.now
    (extends_self c.args.bank.now)
    (alike_tables c.args.bank.now c.args.yes.now c.args.no.now c.in-Table-Table.yes c.in-Table-Table.no c.requires.values c.in-Table-Table.is-0
    c.in-Table-Table.is-1)
    c.as_slice-in-Table-Table.ensures c.as_slice-in-Table-Table-2.ensures

pub join_row-requires-clause-rows : goal.join_row-requires-clause-rows
join_row-requires-clause-rows g c =
    rows_alike_wider c.args.bank.now c.args.bank.now c.in-Row-Row.yes c.in-Row-Row.no c.as_slice.result.now c.as_slice-in-Row-Row.result.now
    (extends_self c.args.bank.now)
    (alike_rows c.args.bank.now c.args.yes.now c.args.no.now c.in-Row-Row.yes c.in-Row-Row.no c.requires.values c.in-Row-Row.is-0 c.in-Row-Row.is-1)
    c.as_slice.ensures c.as_slice-in-Row-Row.ensures

pub returns-in_ok-join_word-in-Word-Word-clause-nodes : goal.returns-in_ok-join_word-in-Word-Word-clause-nodes
returns-in_ok-join_word-in-Word-Word-clause-nodes g c =
    joined_nodes (g.B.Book.kinds c.args.book.now) c.args.test c.args.yes.now c.args.no.now
    (Word c.in-Word-Word.yes) (Word c.in-Word-Word.no) c.args.bank.now c.join_word.new.bank
    c.in-Word-Word.is-0 c.in-Word-Word.is-1 c.in_ok-join_word-in-Word-Word.ensures.nodes

pub returns-in_ok-join_word-in-Word-Word-clause-form : goal.returns-in_ok-join_word-in-Word-Word-clause-form
returns-in_ok-join_word-in-Word-Word-clause-form g c =
    joined_form (g.B.Book.kinds c.args.book.now) c.args.test c.args.yes.now c.args.no.now
    (Word c.in-Word-Word.yes) (Word c.in-Word-Word.no) (Word c.in_ok-join_word-in-Word-Word.field-0) c.args.bank.now
    c.in-Word-Word.is-0 c.in-Word-Word.is-1 (ap Word c.in_ok-join_word-in-Word-Word.ensures.form)

pub returns-in_err-join_word-in-Word-Word-clause-nodes : goal.returns-in_err-join_word-in-Word-Word-clause-nodes
returns-in_err-join_word-in-Word-Word-clause-nodes g c = IfOk-from_err c.from_residual.result _ c.from_residual.ensures.0

pub returns-in_err-join_word-in-Word-Word-clause-form : goal.returns-in_err-join_word-in-Word-Word-clause-form
returns-in_err-join_word-in-Word-Word-clause-form g c = IfOk-from_err c.from_residual.result _ c.from_residual.ensures.0

pub returns-in_ok-join_row-in-Row-Row-clause-nodes : goal.returns-in_ok-join_row-in-Row-Row-clause-nodes
returns-in_ok-join_row-in-Row-Row-clause-nodes g c =
    joined_nodes (g.B.Book.kinds c.args.book.now) c.args.test c.args.yes.now c.args.no.now
    (Row c.as_slice.result.now) (Row c.as_slice-in-Row-Row.result.now) c.args.bank.now c.join_row.new.bank
    (c.in-Row-Row.is-0 ∙ ap Row (sym c.as_slice.ensures)) (c.in-Row-Row.is-1 ∙ ap Row (sym c.as_slice-in-Row-Row.ensures))
    c.in_ok-join_row-in-Row-Row.ensures.nodes

pub returns-in_ok-join_row-in-Row-Row-clause-form : goal.returns-in_ok-join_row-in-Row-Row-clause-form
returns-in_ok-join_row-in-Row-Row-clause-form g c =
    joined_form (g.B.Book.kinds c.args.book.now) c.args.test c.args.yes.now c.args.no.now
    (Row c.as_slice.result.now) (Row c.as_slice-in-Row-Row.result.now) (Row c.in_ok-join_row-in-Row-Row.field-0) c.args.bank.now
    (c.in-Row-Row.is-0 ∙ ap Row (sym c.as_slice.ensures)) (c.in-Row-Row.is-1 ∙ ap Row (sym c.as_slice-in-Row-Row.ensures)) (ap Row
    c.in_ok-join_row-in-Row-Row.ensures.form)

pub returns-in_err-join_row-in-Row-Row-clause-nodes : goal.returns-in_err-join_row-in-Row-Row-clause-nodes
returns-in_err-join_row-in-Row-Row-clause-nodes g c = IfOk-from_err c.from_residual-in_err-join_row-in-Row-Row.result _
    c.from_residual-in_err-join_row-in-Row-Row.ensures.0

pub returns-in_err-join_row-in-Row-Row-clause-form : goal.returns-in_err-join_row-in-Row-Row-clause-form
returns-in_err-join_row-in-Row-Row-clause-form g c = IfOk-from_err c.from_residual-in_err-join_row-in-Row-Row.result _
    c.from_residual-in_err-join_row-in-Row-Row.ensures.0

pub returns-in_ok-join_rows-in-Table-Table-clause-nodes : goal.returns-in_ok-join_rows-in-Table-Table-clause-nodes
returns-in_ok-join_rows-in-Table-Table-clause-nodes g c =
    joined_nodes (g.B.Book.kinds c.args.book.now) c.args.test c.args.yes.now c.args.no.now
    (Table c.as_slice-in-Table-Table.result.now) (Table c.as_slice-in-Table-Table-2.result.now) c.args.bank.now c.join_rows.new.bank
    (c.in-Table-Table.is-0 ∙ ap Table (sym c.as_slice-in-Table-Table.ensures)) (c.in-Table-Table.is-1 ∙ ap Table (sym c.as_slice-in-Table-Table-2.ensures))
    c.in_ok-join_rows-in-Table-Table.ensures.nodes

pub returns-in_ok-join_rows-in-Table-Table-clause-form : goal.returns-in_ok-join_rows-in-Table-Table-clause-form
returns-in_ok-join_rows-in-Table-Table-clause-form g c =
    joined_form (g.B.Book.kinds c.args.book.now) c.args.test c.args.yes.now c.args.no.now
    (Table c.as_slice-in-Table-Table.result.now) (Table c.as_slice-in-Table-Table-2.result.now) (Table c.in_ok-join_rows-in-Table-Table.field-0)
    c.args.bank.now
    (c.in-Table-Table.is-0 ∙ ap Table (sym c.as_slice-in-Table-Table.ensures)) (c.in-Table-Table.is-1 ∙ ap Table (sym c.as_slice-in-Table-Table-2.ensures))
    (ap Table c.in_ok-join_rows-in-Table-Table.ensures.form)

pub returns-in_err-join_rows-in-Table-Table-clause-nodes : goal.returns-in_err-join_rows-in-Table-Table-clause-nodes
returns-in_err-join_rows-in-Table-Table-clause-nodes g c = IfOk-from_err c.from_residual-in_err-join_rows-in-Table-Table.result _
    c.from_residual-in_err-join_rows-in-Table-Table.ensures.0

pub returns-in_err-join_rows-in-Table-Table-clause-form : goal.returns-in_err-join_rows-in-Table-Table-clause-form
returns-in_err-join_rows-in-Table-Table-clause-form g c = IfOk-from_err c.from_residual-in_err-join_rows-in-Table-Table.result _
    c.from_residual-in_err-join_rows-in-Table-Table.ensures.0

pub returns-in_default-clause-nodes : goal.returns-in_default-clause-nodes
returns-in_default-clause-nodes g c =
    let same : joined (g.B.Book.kinds c.args.book.now) c.args.test c.args.yes.now c.args.no.now c.args.bank.now
    ≡ pure c.args.yes.now c.args.bank.now =
    elim c.in_default.branch [
      | in_default-via-in-Word+in_default w ↦ unlike_words (g.B.Book.kinds c.args.book.now) c.args.test c.args.yes.now c.args.no.now
          w.in_default.field-0-0 c.args.bank.now w.in_default.is-0 w.in_default.not-Word-1
      | in_default-via-in-Row+in_default w ↦ unlike_rows (g.B.Book.kinds c.args.book.now) c.args.test c.args.yes.now c.args.no.now
          w.in_default.field-0-0 c.args.bank.now w.in_default.is-0 w.in_default.not-Row-1
      | in_default-via-in-Table+in_default w ↦ unlike_tables (g.B.Book.kinds c.args.book.now) c.args.test c.args.yes.now c.args.no.now
          w.in_default.field-0-0 c.args.bank.now w.in_default.is-0 w.in_default.not-Table-1
    ] in
    on_all c.duplicate.result (ap (λ o. o.nodes) (sym same))

pub returns-in_default-clause-form : goal.returns-in_default-clause-form
returns-in_default-clause-form g c =
    let same : joined (g.B.Book.kinds c.args.book.now) c.args.test c.args.yes.now c.args.no.now c.args.bank.now
    ≡ pure c.args.yes.now c.args.bank.now =
    elim c.in_default.branch [
      | in_default-via-in-Word+in_default w ↦ unlike_words (g.B.Book.kinds c.args.book.now) c.args.test c.args.yes.now c.args.no.now
          w.in_default.field-0-0 c.args.bank.now w.in_default.is-0 w.in_default.not-Word-1
      | in_default-via-in-Row+in_default w ↦ unlike_rows (g.B.Book.kinds c.args.book.now) c.args.test c.args.yes.now c.args.no.now
          w.in_default.field-0-0 c.args.bank.now w.in_default.is-0 w.in_default.not-Row-1
      | in_default-via-in-Table+in_default w ↦ unlike_tables (g.B.Book.kinds c.args.book.now) c.args.test c.args.yes.now c.args.no.now
          w.in_default.field-0-0 c.args.bank.now w.in_default.is-0 w.in_default.not-Table-1
    ] in
    subst (λ (o : Out SymValue). IfOk c.duplicate.result (λ copy. copy ≡ o.value)) (sym same) c.duplicate.ensures

pub returns-in_default-clause-grows : goal.returns-in_default-clause-grows
returns-in_default-clause-grows g c = extends_self c.args.bank.now
