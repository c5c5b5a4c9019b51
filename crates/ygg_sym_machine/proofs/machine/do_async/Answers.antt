use Rattle.std.proofs.Common.{◌≤◌, length, None, Some, sym, subst, ap, ◌∙◌}
use Rattle.std.proofs.lemmas.Result.{IfOk-from_err}
use Rattle.ygg_base.specs.declared.geometry.DiskKind.TheVariants.{Async}
use Rattle.ygg_sym_runs.specs.ygg_bank_proofs_Widths.{extends_self}
use Rattle.ygg_sym_runs.specs.ygg_bank.Makes.{Out}
use Rattle.ygg_sym_runs.specs.Disks.{Done, Write, done}
use Rattle.ygg_sym_machine.specs.Asking.{CallStands, HasRow, asked_call}
use Rattle.ygg_sym_machine.proofs.Calls.{nothing_asked, read_asked, async_asked, flush_asked, second_is, on_ok_refused}
use Rattle.ygg_sym_machine.proofs.Stands.{view_stands}
use Rattle.ygg_sym_machine.proofs.machine.do_async.Goals as goal

pub read-requires-clause-table : goal.read-requires-clause-table
read-requires-clause-table g c =
    view_stands c.args.disk Async c.args.bank.now c.args.bank.now c.args.tables.now c.at.result.now (extends_self c.args.bank.now) c.requires.tables
    c.at.ensures

pub read-requires-clause-at : goal.read-requires-clause-at
read-requires-clause-at g c =
    subst (λ q. CallStands c.args.disk c.args.bank.now (asked_call q c.args.args.now)) c.in-Read.is c.requires.call

pub returns-in-Nothing-clause-nodes : goal.returns-in-Nothing-clause-nodes
returns-in-Nothing-clause-nodes g c = ap (λ (o : Out Done). o.nodes) (nothing_asked (g.B.Book.kinds c.args.book.now) c.args.disk c.args.number c.args.ask
    c.args.args.now c.args.bank.now Async c.args.tables.now c.in-Nothing.is)

pub returns-in-Nothing-clause-form : goal.returns-in-Nothing-clause-form
returns-in-Nothing-clause-form g c = ap (λ (o : Out Done). o.value) (nothing_asked (g.B.Book.kinds c.args.book.now) c.args.disk c.args.number c.args.ask
    c.args.args.now c.args.bank.now Async c.args.tables.now c.in-Nothing.is)

pub returns-in_ok-row-in-Read-clause-nodes : goal.returns-in_ok-row-in-Read-clause-nodes
returns-in_ok-row-in-Read-clause-nodes g c = c.in_ok-row-in-Read.ensures.nodes c.args.tables.now
    ∙ ap (λ (o : Out Done). o.nodes) (read_asked (g.B.Book.kinds c.args.book.now) c.args.disk c.args.number c.args.ask c.args.args.now c.args.bank.now Async
    c.in-Read.at c.at.result.now
    c.args.tables.now c.in-Read.is c.requires.tables c.at.ensures)

pub returns-in_ok-row-in-Read-clause-form : goal.returns-in_ok-row-in-Read-clause-form
returns-in_ok-row-in-Read-clause-form g c = c.in_ok-row-in-Read.ensures.form c.args.tables.now
    ∙ ap (λ (o : Out Done). o.value) (read_asked (g.B.Book.kinds c.args.book.now) c.args.disk c.args.number c.args.ask c.args.args.now c.args.bank.now Async
    c.in-Read.at c.at.result.now
    c.args.tables.now c.in-Read.is c.requires.tables c.at.ensures)

pub write_async-requires-clause-call : goal.write_async-requires-clause-call
write_async-requires-clause-call g c =
    let some : 2 ≤ length c.args.args.now = subst (λ q. HasRow q c.args.args.now) c.in-Write.is c.requires.row in
    let row = second_is c.args.args.now c.index-args-1.result c.row_in-row.result.now some c.index-args-1.is c.row_in-row.ensures in
    let call = subst (λ q. CallStands c.args.disk c.args.bank.now (asked_call q c.args.args.now)) c.in-Write.is c.requires.call in
    let mine = subst (λ r. CallStands c.args.disk c.args.bank.now (Some (Write c.in-Write.at r))) (sym row) call in
    mine

pub returns-in_ok-tables-in-Write-clause-nodes : goal.returns-in_ok-tables-in-Write-clause-nodes
returns-in_ok-tables-in-Write-clause-nodes g c =
    let some : 2 ≤ length c.args.args.now = subst (λ q. HasRow q c.args.args.now) c.in-Write.is c.requires.row in
    let row = second_is c.args.args.now c.index-args-1.result c.row_in-row.result.now some c.index-args-1.is c.row_in-row.ensures in
    c.in_ok-tables-in-Write.ensures.nodes
    ∙ ap (λ (o : Out Done). o.nodes) (async_asked (g.B.Book.kinds c.args.book.now) c.args.disk c.args.number c.args.ask c.args.args.now c.args.bank.now
    c.in-Write.at c.row_in-row.result.now c.args.tables.now c.in-Write.is row)

pub returns-in_ok-tables-in-Write-clause-form : goal.returns-in_ok-tables-in-Write-clause-form
returns-in_ok-tables-in-Write-clause-form g c =
    let some : 2 ≤ length c.args.args.now = subst (λ q. HasRow q c.args.args.now) c.in-Write.is c.requires.row in
    let row = second_is c.args.args.now c.index-args-1.result c.row_in-row.result.now some c.index-args-1.is c.row_in-row.ensures in
    c.in_ok-tables-in-Write.ensures.form
    ∙ ap (λ (o : Out Done). o.value) (async_asked (g.B.Book.kinds c.args.book.now) c.args.disk c.args.number c.args.ask c.args.args.now c.args.bank.now
    c.in-Write.at c.row_in-row.result.now c.args.tables.now c.in-Write.is row)

pub returns-in_ok-tables-in-Flush-clause-nodes : goal.returns-in_ok-tables-in-Flush-clause-nodes
returns-in_ok-tables-in-Flush-clause-nodes g c =
    ap (λ (o : Out Done). o.nodes) (flush_asked (g.B.Book.kinds c.args.book.now) c.args.disk c.args.number c.args.ask c.args.args.now c.args.bank.now
    c.at-in-Flush.result.now
    c.args.tables.now c.in-Flush.is c.requires.tables c.at-in-Flush.ensures)

pub returns-in_ok-tables-in-Flush-clause-form : goal.returns-in_ok-tables-in-Flush-clause-form
returns-in_ok-tables-in-Flush-clause-form g c = ap (done None) c.in_ok-tables-in-Flush.ensures
    ∙ ap (λ (o : Out Done). o.value) (flush_asked (g.B.Book.kinds c.args.book.now) c.args.disk c.args.number c.args.ask c.args.args.now c.args.bank.now
    c.at-in-Flush.result.now
    c.args.tables.now c.in-Flush.is c.requires.tables c.at-in-Flush.ensures)

pub returns-in_err-row-in-Read-clause-nodes : goal.returns-in_err-row-in-Read-clause-nodes
returns-in_err-row-in-Read-clause-nodes g c = on_ok_refused c.from_residual.result _ c.from_residual.ensures.0

pub returns-in_err-row-in-Read-clause-form : goal.returns-in_err-row-in-Read-clause-form
returns-in_err-row-in-Read-clause-form g c = IfOk-from_err c.from_residual.result _ c.from_residual.ensures.0

pub returns-in_err-tables-in-Write-clause-nodes : goal.returns-in_err-tables-in-Write-clause-nodes
returns-in_err-tables-in-Write-clause-nodes g c = on_ok_refused c.from_residual-in_err-tables-in-Write.result _ c.from_residual-in_err-tables-in-Write.ensures.0

pub returns-in_err-tables-in-Write-clause-form : goal.returns-in_err-tables-in-Write-clause-form
returns-in_err-tables-in-Write-clause-form g c = IfOk-from_err c.from_residual-in_err-tables-in-Write.result _ c.from_residual-in_err-tables-in-Write.ensures.0

pub returns-in_err-tables-in-Flush-clause-nodes : goal.returns-in_err-tables-in-Flush-clause-nodes
returns-in_err-tables-in-Flush-clause-nodes g c = on_ok_refused c.from_residual-in_err-tables-in-Flush.result _ c.from_residual-in_err-tables-in-Flush.ensures.0

pub returns-in_err-tables-in-Flush-clause-form : goal.returns-in_err-tables-in-Flush-clause-form
returns-in_err-tables-in-Flush-clause-form g c = IfOk-from_err c.from_residual-in_err-tables-in-Flush.result _ c.from_residual-in_err-tables-in-Flush.ensures.0
