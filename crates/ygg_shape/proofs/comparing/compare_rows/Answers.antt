use Rattle.std.proofs.Common.{◌<◌, length, ◌∙◌, arith}
use Rattle.ygg_shape_cells.specs.ygg_bank_proofs_Widths.{extends_both}
use Rattle.ygg_shape_cells.proofs.Steps.{fold_two_goes, fold_two_value, fold_two_nodes}
use Rattle.ygg_shape_cells.proofs.Wider.{rows_at}
use Rattle.ygg_shape.specs.Comparing.{compared_row}
use Rattle.ygg_shape.proofs.comparing.compare_rows.Goals as goal

pub compare_row-requires-clause-rows : goal.compare_row-requires-clause-rows
compare_row-requires-clause-rows g c =
    rows_at c.args.bank.now c.loop-place.bank c.args.one.now c.args.two.now c.loop-place.place c.as_slice.result.now _
    c.as_slice-in-loop-place.result.now _ c.loop-place.invariant.grows c.requires.rows
    c.loop-place-test.true (c.as_slice.ensures ∙ c.index-one-place.is) (c.as_slice-in-loop-place.ensures ∙ c.index-two-place.is)

pub returns-in_err-all-clause-grows : goal.returns-in_err-all-clause-grows
returns-in_err-all-clause-grows g c =
    extends_both c.args.bank.now c.loop-place.bank c.compare_row.new.bank c.loop-place.invariant.grows c.compare_row.ensures.grows

pub loop-place-preserved : goal.loop-place-preserved
loop-place-preserved g c =
    let both : c.loop-place.place < length c.args.two.now = omega (arith, c.requires.rows.count, c.loop-place-test.true) in
    record {
      went = fold_two_goes (compared_row (g.B.Book.kinds c.args.book.now)) c.args.so_far c.args.one.now c.args.two.now c.args.bank.now c.loop-place.place
          c.loop-place.all c.loop-place.bank c.as_slice.result.now _ c.as_slice-in-loop-place.result.now _ c.in_ok-all.all c.compare_row.new.bank
          c.loop-place-test.true both (c.as_slice.ensures ∙ c.index-one-place.is) (c.as_slice-in-loop-place.ensures ∙ c.index-two-place.is)
          c.in_ok-all.ensures.nodes c.in_ok-all.ensures.form c.loop-place.invariant.went;
      grows = extends_both c.args.bank.now c.loop-place.bank c.compare_row.new.bank c.loop-place.invariant.grows c.compare_row.ensures.grows;
      wide = c.in_ok-all.ensures.width;
      bank = c.compare_row.ensures.bank;
    }

pub returns-clause-nodes : goal.returns-clause-nodes
returns-clause-nodes g c =
    fold_two_nodes (compared_row (g.B.Book.kinds c.args.book.now)) c.args.so_far c.args.one.now c.args.two.now c.args.bank.now c.loop-place.place
    c.loop-place.all c.loop-place.bank c.loop-place-test.false c.loop-place.invariant.went

pub returns-clause-form : goal.returns-clause-form
returns-clause-form g c =
    fold_two_value (compared_row (g.B.Book.kinds c.args.book.now)) c.args.so_far c.args.one.now c.args.two.now c.args.bank.now c.loop-place.place
    c.loop-place.all c.loop-place.bank c.loop-place-test.false c.loop-place.invariant.went
