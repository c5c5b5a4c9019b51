use Rattle.std.proofs.Common.{arith}
use Rattle.ygg_sym_runs.specs.ygg_bank_proofs_Widths.{extends_both, extends_length}
use Rattle.ygg_sym_runs.proofs.Putted.{cell_row, cell_store, cell_places}
use Rattle.ygg_sym_runs.proofs.written.put_cell.Goals as goal

pub store_word-requires-clause-row : goal.store_word-requires-clause-row
store_word-requires-clause-row g c =
    cell_row c.args.bank.now c.select.new.bank c.args.table.now c.args.at c.args.within c.args.new.now c.in_ok-row.row c.requires.can
    c.select.ensures.grows c.in_ok-row.ensures.shape c.id_in.result c.id_in.ensures

pub store_word-requires-clause-at : goal.store_word-requires-clause-at
store_word-requires-clause-at g c =
    let p = cell_places c.args.bank.now c.args.table.now c.args.at c.args.within c.args.new.now c.requires.can in
    let m = extends_length c.args.bank.now c.select.new.bank c.select.ensures.grows in
    let q = p.1 in
    omega (arith, m, q)

pub store-requires-clause-table : goal.store-requires-clause-table
store-requires-clause-table g c =
    let p = cell_places c.args.bank.now c.args.table.now c.args.at c.args.within c.args.new.now c.requires.can in
    let m = extends_length c.args.bank.now c.select.new.bank c.select.ensures.grows in
    let q = p.1 in
    cell_store (g.B.Book.kinds c.args.book.now) c.args.bank.now c.select.new.bank c.store_word.new.bank c.args.table.now c.args.at c.args.within
    c.args.new.now c.in_ok-row.row c.in_ok-written.written c.requires.can c.select.ensures.grows c.store_word.ensures.grows c.in_ok-row.ensures.shape
    (omega (arith, m, q)) c.id_in.result c.id_in.ensures c.in_ok-written.ensures.nodes c.in_ok-written.ensures.form c.store_word.ensures.bank

pub store-requires-clause-at : goal.store-requires-clause-at
store-requires-clause-at g c =
    let p = cell_places c.args.bank.now c.args.table.now c.args.at c.args.within c.args.new.now c.requires.can in
    let m = extends_length c.args.bank.now c.store_word.new.bank
    (extends_both c.args.bank.now c.select.new.bank c.store_word.new.bank c.select.ensures.grows c.store_word.ensures.grows) in
    let q = p.0 in
    omega (arith, m, q)

pub returns-in_err-written-clause-grows : goal.returns-in_err-written-clause-grows
returns-in_err-written-clause-grows g c =
    extends_both c.args.bank.now c.select.new.bank c.store_word.new.bank c.select.ensures.grows c.store_word.ensures.grows

pub returns-in_err-answer-clause-grows : goal.returns-in_err-answer-clause-grows
returns-in_err-answer-clause-grows g c =
    extends_both c.args.bank.now c.select.new.bank c.store.new.bank c.select.ensures.grows
    (extends_both c.select.new.bank c.store_word.new.bank c.store.new.bank c.store_word.ensures.grows c.store.ensures.grows)

pub returns-clause-grows : goal.returns-clause-grows
returns-clause-grows g c =
    extends_both c.args.bank.now c.select.new.bank c.store.new.bank c.select.ensures.grows
    (extends_both c.select.new.bank c.store_word.new.bank c.store.new.bank c.store_word.ensures.grows c.store.ensures.grows)
