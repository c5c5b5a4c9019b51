use Rattle.std.proofs.Common.{◌≡◌, List, ◌∷◌, [], Some, ap, ◌∙◌, subst}
use Rattle.std.proofs.lemmas.Result.{IfOk-from_err, IfOk-weaker}
use Rattle.ygg_sym_runs.specs.ygg_bank.Makes.{Out}
use Rattle.ygg_sym_runs.specs.ygg_shape_cells.declared.terms.SymValue.{SymValue}
use Rattle.ygg_sym_runs.specs.Cuts.{call_cuts}
use Rattle.ygg_sym_runs.specs.Disks.{Write}
use Rattle.ygg_sym_runs.specs.ygg_bank_proofs_Widths.{extends_both}
use Rattle.ygg_sym_runs.specs.ygg_meaning.Stack.{tables_of_kind}
use Rattle.ygg_sym_runs.specs.Lows.{LowShaped}
use Rattle.ygg_sym_machine.proofs.Calls.{async_cut, sync_cut, on_ok_always, on_ok_refused, place_stands}
use Rattle.ygg_sym_machine.proofs.Stands.{row_stands, stable_stands, view_stands}
use Rattle.ygg_sym_machine.proofs.power.cut_write.Goals as goal

pub write_where-requires-clause-table : goal.write_where-requires-clause-table
write_where-requires-clause-table g c =
    view_stands c.args.disk c.args.disk.kind c.args.bank.now c.make.new.self c.args.tables.now c.at.result.now c.make.ensures.grows c.requires.tables
    c.at.ensures

pub write_where-requires-clause-row : goal.write_where-requires-clause-row
write_where-requires-clause-row g c =
    let call = c.requires.call in row_stands c.args.disk c.args.bank.now c.make.new.self c.args.row.now c.make.ensures.grows call.1

pub write_where-requires-in-Async-clause-table : goal.write_where-requires-in-Async-clause-table
write_where-requires-in-Async-clause-table g c =
    stable_stands c.args.disk c.args.bank.now c.make.new.self c.args.tables.now c.at-in-Async.result.now c.make.ensures.grows
    (subst (λ k. LowShaped c.args.bank.now (tables_of_kind k c.args.disk) c.args.tables.now) c.in-Async.is c.requires.tables) c.at-in-Async.ensures

pub write_where-requires-in-Async-clause-row : goal.write_where-requires-in-Async-clause-row
write_where-requires-in-Async-clause-row g c =
    let call = c.requires.call in row_stands c.args.disk c.args.bank.now c.make.new.self c.args.row.now c.make.ensures.grows call.1

pub returns-in_err-left-in-Sync-clause-grows : goal.returns-in_err-left-in-Sync-clause-grows
returns-in_err-left-in-Sync-clause-grows g c =
    extends_both c.args.bank.now c.make.new.self c.write_where.new.bank c.make.ensures.grows c.write_where.ensures.grows

pub returns-in_ok-left-in-Sync-clause-grows : goal.returns-in_ok-left-in-Sync-clause-grows
returns-in_ok-left-in-Sync-clause-grows g c =
    extends_both c.args.bank.now c.make.new.self c.write_where.new.bank c.make.ensures.grows c.write_where.ensures.grows

pub returns-in_err-left-in-Async-clause-grows : goal.returns-in_err-left-in-Async-clause-grows
returns-in_err-left-in-Async-clause-grows g c =
    extends_both c.args.bank.now c.make.new.self c.write_where-in-Async.new.bank c.make.ensures.grows c.write_where-in-Async.ensures.grows

pub returns-in_ok-left-in-Async-clause-grows : goal.returns-in_ok-left-in-Async-clause-grows
returns-in_ok-left-in-Async-clause-grows g c =
    extends_both c.args.bank.now c.make.new.self c.write_where-in-Async.new.bank c.make.ensures.grows c.write_where-in-Async.ensures.grows

pub write_where-requires-clause-at : goal.write_where-requires-clause-at
write_where-requires-clause-at g c =
    let call = c.requires.call in place_stands c.args.bank.now c.make.new.self c.args.at c.make.ensures.grows call.0

pub returns-in_ok-left-in-Sync-clause-nodes : goal.returns-in_ok-left-in-Sync-clause-nodes
returns-in_ok-left-in-Sync-clause-nodes g c =
    let kinds = g.B.Book.kinds c.args.book.now in
    on_ok_always c.one_table.result (ap (λ (o : Out (List SymValue)). o.nodes)
    (sync_cut kinds c.args.disk c.args.number c.args.at c.args.row.now c.args.bank.now c.in_ok-kept.kept c.make.new.self c.in_ok-kept.ensures.id
    c.in_ok-kept.ensures.nodes c.args.disk.kind c.write_where.new.bank c.at.result.now c.in_ok-left-in-Sync.left c.args.tables.now c.in-Sync.is
    c.requires.tables
    c.at.ensures c.in_ok-left-in-Sync.ensures.form c.in_ok-left-in-Sync.ensures.nodes))

pub returns-in_ok-left-in-Sync-clause-form : goal.returns-in_ok-left-in-Sync-clause-form
returns-in_ok-left-in-Sync-clause-form g c =
    let kinds = g.B.Book.kinds c.args.book.now in
    let made = sync_cut kinds c.args.disk c.args.number c.args.at c.args.row.now c.args.bank.now c.in_ok-kept.kept c.make.new.self c.in_ok-kept.ensures.id
    c.in_ok-kept.ensures.nodes c.args.disk.kind c.write_where.new.bank c.at.result.now c.in_ok-left-in-Sync.left c.args.tables.now c.in-Sync.is
    c.requires.tables
    c.at.ensures c.in_ok-left-in-Sync.ensures.form c.in_ok-left-in-Sync.ensures.nodes in
    IfOk-weaker c.one_table.result (λ left. left ≡ c.in_ok-left-in-Sync.left ∷ [])
    (λ left. left ≡ (call_cuts kinds c.args.disk.kind c.args.number (Some (Write c.args.at c.args.row.now)) c.args.tables.now c.args.bank.now).value)
    (λ left same. same ∙ ap (λ (o : Out (List SymValue)). o.value) made) c.one_table.ensures

pub returns-in_ok-left-in-Sync-clause-bank : goal.returns-in_ok-left-in-Sync-clause-bank
returns-in_ok-left-in-Sync-clause-bank g c = c.write_where.ensures.bank

pub returns-in_err-left-in-Sync-clause-nodes : goal.returns-in_err-left-in-Sync-clause-nodes
returns-in_err-left-in-Sync-clause-nodes g c = on_ok_refused c.from_residual-in_err-left-in-Sync.result _ c.from_residual-in_err-left-in-Sync.ensures.0

pub returns-in_err-left-in-Sync-clause-form : goal.returns-in_err-left-in-Sync-clause-form
returns-in_err-left-in-Sync-clause-form g c = IfOk-from_err c.from_residual-in_err-left-in-Sync.result _ c.from_residual-in_err-left-in-Sync.ensures.0

pub returns-in_err-left-in-Sync-clause-bank : goal.returns-in_err-left-in-Sync-clause-bank
returns-in_err-left-in-Sync-clause-bank g c = c.write_where.ensures.bank

pub write_where-requires-in-Async-clause-at : goal.write_where-requires-in-Async-clause-at
write_where-requires-in-Async-clause-at g c =
    let call = c.requires.call in place_stands c.args.bank.now c.make.new.self c.args.at c.make.ensures.grows call.0

pub returns-in_ok-left-in-Async-clause-nodes : goal.returns-in_ok-left-in-Async-clause-nodes
returns-in_ok-left-in-Async-clause-nodes g c =
    let kinds = g.B.Book.kinds c.args.book.now in
    on_ok_always c.twice.result (ap (λ (o : Out (List SymValue)). o.nodes)
    (async_cut kinds c.args.disk c.args.number c.args.at c.args.row.now c.args.bank.now c.in_ok-kept.kept c.make.new.self c.in_ok-kept.ensures.id
    c.in_ok-kept.ensures.nodes c.args.disk.kind c.write_where-in-Async.new.bank c.at-in-Async.result.now c.in_ok-left-in-Async.left c.args.tables.now
    c.in-Async.is c.requires.tables
    c.at-in-Async.ensures c.in_ok-left-in-Async.ensures.form c.in_ok-left-in-Async.ensures.nodes))

pub returns-in_ok-left-in-Async-clause-form : goal.returns-in_ok-left-in-Async-clause-form
returns-in_ok-left-in-Async-clause-form g c =
    let kinds = g.B.Book.kinds c.args.book.now in
    let made = async_cut kinds c.args.disk c.args.number c.args.at c.args.row.now c.args.bank.now c.in_ok-kept.kept c.make.new.self c.in_ok-kept.ensures.id
    c.in_ok-kept.ensures.nodes c.args.disk.kind c.write_where-in-Async.new.bank c.at-in-Async.result.now c.in_ok-left-in-Async.left c.args.tables.now
    c.in-Async.is c.requires.tables
    c.at-in-Async.ensures c.in_ok-left-in-Async.ensures.form c.in_ok-left-in-Async.ensures.nodes in
    IfOk-weaker c.twice.result (λ left. left ≡ c.in_ok-left-in-Async.left ∷ c.in_ok-left-in-Async.left ∷ [])
    (λ left. left ≡ (call_cuts kinds c.args.disk.kind c.args.number (Some (Write c.args.at c.args.row.now)) c.args.tables.now c.args.bank.now).value)
    (λ left same. same ∙ ap (λ (o : Out (List SymValue)). o.value) made) c.twice.ensures

pub returns-in_ok-left-in-Async-clause-bank : goal.returns-in_ok-left-in-Async-clause-bank
returns-in_ok-left-in-Async-clause-bank g c = c.write_where-in-Async.ensures.bank

pub returns-in_err-left-in-Async-clause-nodes : goal.returns-in_err-left-in-Async-clause-nodes
returns-in_err-left-in-Async-clause-nodes g c = on_ok_refused c.from_residual-in_err-left-in-Async.result _ c.from_residual-in_err-left-in-Async.ensures.0

pub returns-in_err-left-in-Async-clause-form : goal.returns-in_err-left-in-Async-clause-form
returns-in_err-left-in-Async-clause-form g c = IfOk-from_err c.from_residual-in_err-left-in-Async.result _ c.from_residual-in_err-left-in-Async.ensures.0

pub returns-in_err-left-in-Async-clause-bank : goal.returns-in_err-left-in-Async-clause-bank
returns-in_err-left-in-Async-clause-bank g c = c.write_where-in-Async.ensures.bank

pub returns-in_err-kept-clause-nodes : goal.returns-in_err-kept-clause-nodes
returns-in_err-kept-clause-nodes g c = on_ok_refused c.from_residual.result _ c.from_residual.ensures.0

pub returns-in_err-kept-clause-form : goal.returns-in_err-kept-clause-form
returns-in_err-kept-clause-form g c = IfOk-from_err c.from_residual.result _ c.from_residual.ensures.0

pub returns-in_err-kept-clause-bank : goal.returns-in_err-kept-clause-bank
returns-in_err-kept-clause-bank g c = c.make.ensures.bank

pub returns-in_err-kept-clause-grows : goal.returns-in_err-kept-clause-grows
returns-in_err-kept-clause-grows g c = c.make.ensures.grows
