use Rattle.ygg_base.specs.declared.geometry.DiskKind.TheVariants.{Async}
use Rattle.ygg_sym_runs.specs.ygg_bank_proofs_Widths.{extends_both, wider}
use Rattle.std.proofs.Common.{◌≡◌, None, ap, ◌∙◌, ◌∷◌, []}
use Rattle.std.proofs.lemmas.Result.{IfOk-from_err, IfOk-weaker}
use Rattle.ygg_sym_runs.specs.ygg_bank.Makes.{Out}
use Rattle.ygg_sym_runs.specs.Disks.{Done, Write, async_does, done}
use Rattle.ygg_sym_machine.proofs.Calls.{async_written, on_ok_always, on_ok_refused, place_stands}
use Rattle.ygg_sym_machine.proofs.Stands.{row_stands, stable_stands, view_stands}
use Rattle.ygg_sym_machine.proofs.machine.write_async.Goals as goal

pub write-requires-clause-table : goal.write-requires-clause-table
write-requires-clause-table g c =
    view_stands c.args.disk Async c.args.bank.now c.make.new.self c.args.tables.now c.at.result.now c.make.ensures.grows c.requires.tables c.at.ensures

pub write-requires-clause-row : goal.write-requires-clause-row
write-requires-clause-row g c =
    let call = c.requires.call in row_stands c.args.disk c.args.bank.now c.make.new.self c.args.row.now c.make.ensures.grows call.1

pub write_where-requires-clause-test : goal.write_where-requires-clause-test
write_where-requires-clause-test g c =
    wider c.make.new.self c.write.new.bank c.in_ok-kept.kept 1 c.write.ensures.grows c.in_ok-kept.ensures.width

pub write_where-requires-clause-table : goal.write_where-requires-clause-table
write_where-requires-clause-table g c =
    stable_stands c.args.disk c.args.bank.now c.write.new.bank c.args.tables.now c.at-2.result.now
    (extends_both c.args.bank.now c.make.new.self c.write.new.bank c.make.ensures.grows c.write.ensures.grows) c.requires.tables c.at-2.ensures

pub write_where-requires-clause-row : goal.write_where-requires-clause-row
write_where-requires-clause-row g c =
    let call = c.requires.call in
    row_stands c.args.disk c.args.bank.now c.write.new.bank c.args.row.now
    (extends_both c.args.bank.now c.make.new.self c.write.new.bank c.make.ensures.grows c.write.ensures.grows) call.1

pub returns-in_err-seen-clause-grows : goal.returns-in_err-seen-clause-grows
returns-in_err-seen-clause-grows g c = extends_both c.args.bank.now c.make.new.self c.write.new.bank c.make.ensures.grows c.write.ensures.grows

pub returns-in_err-left-clause-grows : goal.returns-in_err-left-clause-grows
returns-in_err-left-clause-grows g c =
    extends_both c.args.bank.now c.make.new.self c.write_where.new.bank c.make.ensures.grows
    (extends_both c.make.new.self c.write.new.bank c.write_where.new.bank c.write.ensures.grows c.write_where.ensures.grows)

pub returns-clause-grows : goal.returns-clause-grows
returns-clause-grows g c =
    extends_both c.args.bank.now c.make.new.self c.write_where.new.bank c.make.ensures.grows
    (extends_both c.make.new.self c.write.new.bank c.write_where.new.bank c.write.ensures.grows c.write_where.ensures.grows)

pub write-requires-clause-at : goal.write-requires-clause-at
write-requires-clause-at g c =
    let call = c.requires.call in place_stands c.args.bank.now c.make.new.self c.args.at c.make.ensures.grows call.0

pub write_where-requires-clause-at : goal.write_where-requires-clause-at
write_where-requires-clause-at g c =
    let call = c.requires.call in
    place_stands c.args.bank.now c.write.new.bank c.args.at
    (extends_both c.args.bank.now c.make.new.self c.write.new.bank c.make.ensures.grows c.write.ensures.grows) call.0

pub returns-clause-nodes : goal.returns-clause-nodes
returns-clause-nodes g c =
    let kinds = g.B.Book.kinds c.args.book.now in
    on_ok_always c.two_tables.result (ap (λ (o : Out Done). o.nodes) (async_written kinds c.args.disk c.args.number c.args.at c.args.row.now c.args.bank.now
    c.in_ok-kept.kept c.make.new.self c.in_ok-kept.ensures.id
    c.in_ok-kept.ensures.nodes c.write.new.bank c.write_where.new.bank c.at.result.now c.at-2.result.now c.in_ok-seen.seen c.in_ok-left.left
    c.args.tables.now c.requires.tables c.at.ensures c.at-2.ensures c.in_ok-seen.ensures.form c.in_ok-seen.ensures.nodes c.in_ok-left.ensures.form
    c.in_ok-left.ensures.nodes))

pub returns-clause-form : goal.returns-clause-form
returns-clause-form g c =
    let kinds = g.B.Book.kinds c.args.book.now in
    let made = async_written kinds c.args.disk c.args.number c.args.at c.args.row.now c.args.bank.now c.in_ok-kept.kept c.make.new.self c.in_ok-kept.ensures.id
    c.in_ok-kept.ensures.nodes c.write.new.bank c.write_where.new.bank c.at.result.now c.at-2.result.now c.in_ok-seen.seen c.in_ok-left.left
    c.args.tables.now c.requires.tables c.at.ensures c.at-2.ensures c.in_ok-seen.ensures.form c.in_ok-seen.ensures.nodes c.in_ok-left.ensures.form
    c.in_ok-left.ensures.nodes in
    IfOk-weaker c.two_tables.result (λ new. new ≡ c.in_ok-seen.seen ∷ c.in_ok-left.left ∷ [])
    (λ new. done None new ≡ (async_does kinds c.args.number (Write c.args.at c.args.row.now) c.args.tables.now c.args.bank.now).value)
    (λ new same. ap (done None) same ∙ ap (λ (o : Out Done). o.value) made) c.two_tables.ensures

pub returns-clause-bank : goal.returns-clause-bank
returns-clause-bank g c = c.write_where.ensures.bank

pub returns-in_err-kept-clause-nodes : goal.returns-in_err-kept-clause-nodes
returns-in_err-kept-clause-nodes g c = on_ok_refused c.from_residual.result _ c.from_residual.ensures.0

pub returns-in_err-kept-clause-form : goal.returns-in_err-kept-clause-form
returns-in_err-kept-clause-form g c = IfOk-from_err c.from_residual.result _ c.from_residual.ensures.0

pub returns-in_err-kept-clause-bank : goal.returns-in_err-kept-clause-bank
returns-in_err-kept-clause-bank g c = c.make.ensures.bank

pub returns-in_err-seen-clause-nodes : goal.returns-in_err-seen-clause-nodes
returns-in_err-seen-clause-nodes g c = on_ok_refused c.from_residual-in_err-seen.result _ c.from_residual-in_err-seen.ensures.0

pub returns-in_err-seen-clause-form : goal.returns-in_err-seen-clause-form
returns-in_err-seen-clause-form g c = IfOk-from_err c.from_residual-in_err-seen.result _ c.from_residual-in_err-seen.ensures.0

pub returns-in_err-seen-clause-bank : goal.returns-in_err-seen-clause-bank
returns-in_err-seen-clause-bank g c = c.write.ensures.bank

pub returns-in_err-left-clause-nodes : goal.returns-in_err-left-clause-nodes
returns-in_err-left-clause-nodes g c = on_ok_refused c.from_residual-in_err-left.result _ c.from_residual-in_err-left.ensures.0

pub returns-in_err-left-clause-form : goal.returns-in_err-left-clause-form
returns-in_err-left-clause-form g c = IfOk-from_err c.from_residual-in_err-left.result _ c.from_residual-in_err-left.ensures.0

pub returns-in_err-left-clause-bank : goal.returns-in_err-left-clause-bank
returns-in_err-left-clause-bank g c = c.write_where.ensures.bank

pub returns-in_err-kept-clause-grows : goal.returns-in_err-kept-clause-grows
returns-in_err-kept-clause-grows g c = c.make.ensures.grows
