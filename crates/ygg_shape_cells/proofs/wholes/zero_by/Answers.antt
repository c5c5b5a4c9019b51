use Rattle.std.proofs.lemmas.Result.{IfOk-from_err}
use Rattle.std.proofs.Common.{sym, ap, ◌∙◌, replicate, subst}
use Rattle.ygg_value.specs.declared.shape.Shape.{Shape}
use Rattle.ygg_shape_cells.specs.declared.terms.SymValue.TheVariants.{Word, Row, Table}
use Rattle.ygg_shape_cells.specs.Wholes.{zero_made}
use Rattle.std.proofs.lemmas.Nat.{pow_pos}
use Rattle.ygg_value.specs.Shapes.{IsShape}
use Rattle.ygg_shape_cells.proofs.wholes.zero_by.Goals as goal

pub returns-in_ok-zero-in-Word-clause-nodes : goal.returns-in_ok-zero-in-Word-clause-nodes
returns-in_ok-zero-in-Word-clause-nodes g c =
    c.in_ok-zero-in-Word.ensures.nodes ∙ ap (λ (z : Shape). (zero_made (g.B.Book.kinds c.args.book.now) z c.args.bank.now).nodes) (sym c.in-Word.is)

pub returns-in_ok-zero-in-Word-clause-form : goal.returns-in_ok-zero-in-Word-clause-form
returns-in_ok-zero-in-Word-clause-form g c =
    ap Word c.in_ok-zero-in-Word.ensures.id
    ∙ ap (λ (z : Shape). (zero_made (g.B.Book.kinds c.args.book.now) z c.args.bank.now).value) (sym c.in-Word.is)

pub returns-in_ok-row-in-Row-clause-nodes : goal.returns-in_ok-row-in-Row-clause-nodes
returns-in_ok-row-in-Row-clause-nodes g c =
    c.in_ok-row-in-Row.ensures.nodes ∙ ap (λ (z : Shape). (zero_made (g.B.Book.kinds c.args.book.now) z c.args.bank.now).nodes) (sym c.in-Row.is)

pub returns-in_ok-row-in-Row-clause-form : goal.returns-in_ok-row-in-Row-clause-form
returns-in_ok-row-in-Row-clause-form g c =
    ap Row c.in_ok-row-in-Row.ensures.form
    ∙ ap (λ (z : Shape). (zero_made (g.B.Book.kinds c.args.book.now) z c.args.bank.now).value) (sym c.in-Row.is)

pub returns-in_ok-table-in-Table-clause-nodes : goal.returns-in_ok-table-in-Table-clause-nodes
returns-in_ok-table-in-Table-clause-nodes g c =
    c.in_ok-row-in-Table.ensures.nodes ∙ ap (λ (z : Shape). (zero_made (g.B.Book.kinds c.args.book.now) z c.args.bank.now).nodes) (sym c.in-Table.is)

pub returns-in_ok-table-in-Table-clause-form : goal.returns-in_ok-table-in-Table-clause-form
returns-in_ok-table-in-Table-clause-form g c =
    ap Table (c.in_ok-table-in-Table.ensures ∙ ap (replicate c.in-Table.rows) c.in_ok-row-in-Table.ensures.form)
    ∙ ap (λ (z : Shape). (zero_made (g.B.Book.kinds c.args.book.now) z c.args.bank.now).value) (sym c.in-Table.is)

pub returns-in_err-zero-in-Word-clause-nodes : goal.returns-in_err-zero-in-Word-clause-nodes
returns-in_err-zero-in-Word-clause-nodes g c = IfOk-from_err c.from_residual.result _ c.from_residual.ensures.0

pub returns-in_err-zero-in-Word-clause-form : goal.returns-in_err-zero-in-Word-clause-form
returns-in_err-zero-in-Word-clause-form g c = IfOk-from_err c.from_residual.result _ c.from_residual.ensures.0

pub returns-in_err-row-in-Row-clause-nodes : goal.returns-in_err-row-in-Row-clause-nodes
returns-in_err-row-in-Row-clause-nodes g c = IfOk-from_err c.from_residual-in_err-row-in-Row.result _ c.from_residual-in_err-row-in-Row.ensures.0

pub returns-in_err-row-in-Row-clause-form : goal.returns-in_err-row-in-Row-clause-form
returns-in_err-row-in-Row-clause-form g c = IfOk-from_err c.from_residual-in_err-row-in-Row.result _ c.from_residual-in_err-row-in-Row.ensures.0

pub returns-in_err-row-in-Table-clause-nodes : goal.returns-in_err-row-in-Table-clause-nodes
returns-in_err-row-in-Table-clause-nodes g c = IfOk-from_err c.from_residual-in_err-row-in-Table.result _ c.from_residual-in_err-row-in-Table.ensures.0

pub returns-in_err-row-in-Table-clause-form : goal.returns-in_err-row-in-Table-clause-form
returns-in_err-row-in-Table-clause-form g c = IfOk-from_err c.from_residual-in_err-row-in-Table.result _ c.from_residual-in_err-row-in-Table.ensures.0

pub returns-in_err-table-in-Table-clause-nodes : goal.returns-in_err-table-in-Table-clause-nodes
returns-in_err-table-in-Table-clause-nodes g c = IfOk-from_err c.from_residual-in_err-table-in-Table.result _ c.from_residual-in_err-table-in-Table.ensures.0

pub returns-in_err-table-in-Table-clause-form : goal.returns-in_err-table-in-Table-clause-form
returns-in_err-table-in-Table-clause-form g c = IfOk-from_err c.from_residual-in_err-table-in-Table.result _ c.from_residual-in_err-table-in-Table.ensures.0

pub make-requires : goal.make-requires
make-requires g c =
    let s = subst IsShape c.in-Word.is c.requires in record { least = s.0; most = s.1; fits = pow_pos c.in-Word.width }

pub zero_row-requires : goal.zero_row-requires
zero_row-requires g c = let s = subst IsShape c.in-Row.is c.requires in record { least = s.1.0; most = s.1.1 }

pub zero_row-requires-in-Table : goal.zero_row-requires-in-Table
zero_row-requires-in-Table g c = let s = subst IsShape c.in-Table.is c.requires in record { least = s.2.0; most = s.2.1 }
