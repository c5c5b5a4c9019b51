use Rattle.ygg_sym_runs.proofs.Putted.{row_can, table_can}
use Rattle.ygg_sym_runs.proofs.written.put_by.Goals as goal

pub store_word-requires-clause-row : goal.store_word-requires-clause-row
store_word-requires-clause-row g c =
    row_can c.args.bank.now c.args.old.now c.args.new c.in-Row.row c.args.places.now c.requires.can c.in-Row.is c.if-places-eq0.false
    c.id_in.result c.id_in.ensures

pub put_cell-requires-clause-can : goal.put_cell-requires-clause-can
put_cell-requires-clause-can g c =
    table_can c.args.bank.now c.args.old.now c.args.new c.in-Table.table c.args.places.now (record { 0 = 0 }) c.requires.can c.in-Table.is
    c.if-places-eq0.false c.if-places-eq1.false
