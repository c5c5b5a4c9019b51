use Rattle.std.proofs.lemmas.Result.{IfOk-from_err}
use Rattle.std.proofs.Common.{sym, ap, ◌∙◌, ◌+◌, ◌<◌, ◌^◌, subst}
use Rattle.ygg_value.specs.declared.shape.Shape.{Shape}
use Rattle.ygg_shape_cells.specs.declared.terms.SymValue.TheVariants.{Word, Row, Table}
use Rattle.ygg_shape_cells.specs.Fresh.{fresh_made, words_of}
use Rattle.ygg_value.specs.Shapes.{IsShape}
use Rattle.ygg_shape_cells.proofs.Freshness.{can_input}
use Rattle.ygg_shape_cells.proofs.fresh.inputs_by.Goals as goal

pub returns-in_ok-term-in-Word-clause-nodes : goal.returns-in_ok-term-in-Word-clause-nodes
returns-in_ok-term-in-Word-clause-nodes g c =
    c.in_ok-term-in-Word.ensures.nodes ∙ ap (λ (z : Shape). (fresh_made (g.B.Book.kinds c.args.book.now) c.args.number z c.args.bank.now).nodes) (sym
    c.in-Word.is)

pub returns-in_ok-term-in-Word-clause-form : goal.returns-in_ok-term-in-Word-clause-form
returns-in_ok-term-in-Word-clause-form g c =
    ap Word c.in_ok-term-in-Word.ensures.id ∙ ap (λ (z : Shape). (fresh_made (g.B.Book.kinds c.args.book.now) c.args.number z c.args.bank.now).value) (sym
    c.in-Word.is)

pub returns-in_err-term-in-Word-clause-nodes : goal.returns-in_err-term-in-Word-clause-nodes
returns-in_err-term-in-Word-clause-nodes g c = IfOk-from_err c.from_residual.result _ c.from_residual.ensures.0

pub returns-in_err-term-in-Word-clause-form : goal.returns-in_err-term-in-Word-clause-form
returns-in_err-term-in-Word-clause-form g c = IfOk-from_err c.from_residual.result _ c.from_residual.ensures.0

pub returns-in_ok-row-in-Row-clause-nodes : goal.returns-in_ok-row-in-Row-clause-nodes
returns-in_ok-row-in-Row-clause-nodes g c =
    c.in_ok-row-in-Row.ensures.nodes ∙ ap (λ (z : Shape). (fresh_made (g.B.Book.kinds c.args.book.now) c.args.number z c.args.bank.now).nodes) (sym c.in-Row.is)

pub returns-in_ok-row-in-Row-clause-form : goal.returns-in_ok-row-in-Row-clause-form
returns-in_ok-row-in-Row-clause-form g c =
    ap Row c.in_ok-row-in-Row.ensures.form ∙ ap (λ (z : Shape). (fresh_made (g.B.Book.kinds c.args.book.now) c.args.number z c.args.bank.now).value) (sym
    c.in-Row.is)

pub returns-in_err-row-in-Row-clause-nodes : goal.returns-in_err-row-in-Row-clause-nodes
returns-in_err-row-in-Row-clause-nodes g c = IfOk-from_err c.from_residual-in_err-row-in-Row.result _ c.from_residual-in_err-row-in-Row.ensures.0

pub returns-in_err-row-in-Row-clause-form : goal.returns-in_err-row-in-Row-clause-form
returns-in_err-row-in-Row-clause-form g c = IfOk-from_err c.from_residual-in_err-row-in-Row.result _ c.from_residual-in_err-row-in-Row.ensures.0

pub returns-in_ok-table-in-Table-clause-nodes : goal.returns-in_ok-table-in-Table-clause-nodes
returns-in_ok-table-in-Table-clause-nodes g c =
    c.in_ok-table-in-Table.ensures.nodes ∙ ap (λ (z : Shape). (fresh_made (g.B.Book.kinds c.args.book.now) c.args.number z c.args.bank.now).nodes) (sym
    c.in-Table.is)

pub returns-in_ok-table-in-Table-clause-form : goal.returns-in_ok-table-in-Table-clause-form
returns-in_ok-table-in-Table-clause-form g c =
    ap Table c.in_ok-table-in-Table.ensures.form ∙ ap (λ (z : Shape). (fresh_made (g.B.Book.kinds c.args.book.now) c.args.number z c.args.bank.now).value)
    (sym c.in-Table.is)

pub returns-in_err-table-in-Table-clause-nodes : goal.returns-in_err-table-in-Table-clause-nodes
returns-in_err-table-in-Table-clause-nodes g c = IfOk-from_err c.from_residual-in_err-table-in-Table.result _ c.from_residual-in_err-table-in-Table.ensures.0

pub returns-in_err-table-in-Table-clause-form : goal.returns-in_err-table-in-Table-clause-form
returns-in_err-table-in-Table-clause-form g c = IfOk-from_err c.from_residual-in_err-table-in-Table.result _ c.from_residual-in_err-table-in-Table.ensures.0

pub make-requires : goal.make-requires
make-requires g c =
    let s = subst IsShape c.in-Word.is c.requires.shape in
    can_input c.args.bank.now c.args.number c.in-Word.width (record { least = s.0; most = s.1 }) c.requires.below

pub input_row-requires-clause-width : goal.input_row-requires-clause-width
input_row-requires-clause-width g c = let s = subst IsShape c.in-Row.is c.requires.shape in record { least = s.1.0; most = s.1.1 }

pub input_row-requires-clause-room : goal.input_row-requires-clause-room
input_row-requires-clause-room g c = subst (λ (z : Shape). c.args.number + words_of z < 2 ^ 64) c.in-Row.is c.requires.room

pub input_row-requires-clause-below : goal.input_row-requires-clause-below
input_row-requires-clause-below g c = c.requires.below

pub input_rows-requires-clause-width : goal.input_rows-requires-clause-width
input_rows-requires-clause-width g c = let s = subst IsShape c.in-Table.is c.requires.shape in record { least = s.2.0; most = s.2.1 }

pub input_rows-requires-clause-room : goal.input_rows-requires-clause-room
input_rows-requires-clause-room g c = subst (λ (z : Shape). c.args.number + words_of z < 2 ^ 64) c.in-Table.is c.requires.room

pub input_rows-requires-clause-below : goal.input_rows-requires-clause-below
input_rows-requires-clause-below g c = c.requires.below
