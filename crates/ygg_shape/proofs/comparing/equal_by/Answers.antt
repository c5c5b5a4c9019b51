use Rattle.ygg_shape_cells.specs.ygg_bank_proofs_Widths.{extends_both}
use Rattle.ygg_shape_cells.proofs.Wider.{alike_words, alike_rows, alike_tables, rows_alike_wider, tables_alike_wider}
use Rattle.ygg_shape.proofs.comparing.equal_by.Goals as goal

pub equate-requires : goal.equate-requires
equate-requires g c =
    record {
      words = alike_words c.args.bank.now c.args.one.now c.args.two.now c.in-Word-Word.one c.in-Word-Word.two c.requires c.in-Word-Word.is-0
          c.in-Word-Word.is-1;
    }

pub compare_row-requires-clause-rows : goal.compare_row-requires-clause-rows
compare_row-requires-clause-rows g c =
    rows_alike_wider c.args.bank.now c.make.new.self c.in-Row-Row.one c.in-Row-Row.two c.as_slice.result.now
    c.as_slice-in-Row-Row.result.now c.make.ensures.grows
    (alike_rows c.args.bank.now c.args.one.now c.args.two.now c.in-Row-Row.one c.in-Row-Row.two c.requires c.in-Row-Row.is-0 c.in-Row-Row.is-1)
    c.as_slice.ensures c.as_slice-in-Row-Row.ensures

pub compare_rows-requires-clause-rows : goal.compare_rows-requires-clause-rows
compare_rows-requires-clause-rows g c =
    tables_alike_wider c.args.bank.now c.make-in-Table-Table.new.self c.in-Table-Table.one c.in-Table-Table.two c.as_slice-in-Table-Table.result.now
    c.as_slice-in-Table-Table-2.result.now
    c.make-in-Table-Table.ensures.grows
    (alike_tables c.args.bank.now c.args.one.now c.args.two.now c.in-Table-Table.one c.in-Table-Table.two c.requires c.in-Table-Table.is-0
    c.in-Table-Table.is-1)
    c.as_slice-in-Table-Table.ensures c.as_slice-in-Table-Table-2.ensures

pub returns-in_ok-so_far-in-Row-Row-clause-grows : goal.returns-in_ok-so_far-in-Row-Row-clause-grows
returns-in_ok-so_far-in-Row-Row-clause-grows g c =
    extends_both c.args.bank.now c.make.new.self c.compare_row.new.bank c.make.ensures.grows c.compare_row.ensures.grows

pub returns-in_ok-so_far-in-Table-Table-clause-grows : goal.returns-in_ok-so_far-in-Table-Table-clause-grows
returns-in_ok-so_far-in-Table-Table-clause-grows g c =
    extends_both c.args.bank.now c.make-in-Table-Table.new.self c.compare_rows.new.bank c.make-in-Table-Table.ensures.grows
    c.compare_rows.ensures.grows
