use Rattle.std.proofs.Common.{◌≡◌, ◌∙◌, sym, subst, ℕ, List}
use Rattle.ygg_shape_words.specs.ygg_bank_proofs_Widths.{wider, extends_both, extends_self}
use Rattle.ygg_shape_cells.specs.Making.{where_at}
use Rattle.ygg_shape_cells.specs.Terms.{IsRow}
use Rattle.ygg_shape_cells.proofs.Steps.{fold_from_goes, fold_from_begins, fold_from_nodes, fold_from_value}
use Rattle.ygg_shape_cells.proofs.Wider.{row_at}
use Rattle.std.proofs.lemmas.Result.{IfOk-from_err}
use Rattle.ygg_shape_words.specs.ygg_bank.declared.node.Id.{Id}
use Rattle.ygg_shape_cells.proofs.selecting.choose.Goals as goal

pub where_at-requires-clause-place : goal.where_at-requires-clause-place
where_at-requires-clause-place g c = wider c.args.bank.now c.loop-number.bank c.args.place.at c.args.place.width c.loop-number.invariant.grows c.requires.place

pub where_at-requires-clause-rows : goal.where_at-requires-clause-rows
where_at-requires-clause-rows g c =
    let r = c.requires.rows in
    record {
      words = r.words;
      width = r.width;
      one_is = row_at c.args.bank.now c.loop-number.bank r.words r.width c.args.table.now c.loop-number.number c.as_slice.result.now _
          c.loop-number.invariant.grows r.rows_are c.loop-number-test.true
          (c.as_slice.ensures ∙ c.index-table-number.is);
      two_is = subst (IsRow c.loop-number.bank r.words r.width) (sym c.as_slice-in-loop-number.ensures)
          (c.loop-number.invariant.shape r.words r.width r.rows_are r.row_is);
    }

pub loop-number-preserved : goal.loop-number-preserved
loop-number-preserved g c =
    let kinds = g.B.Book.kinds c.args.book.now in
    let same = c.as_slice-in-loop-number.ensures in
    record {
      went = fold_from_goes (λ so_far number row. where_at kinds c.args.place.at c.args.place.width number row so_far) c.args.past c.args.table.now
          c.args.bank.now c.loop-number.number c.loop-number.row
          c.loop-number.bank c.as_slice.result.now _ c.in_ok-row.row c.where_at.new.bank c.loop-number-test.true (c.as_slice.ensures ∙ c.index-table-number.is)
          (subst (λ z. c.where_at.new.bank ≡ (where_at kinds c.args.place.at c.args.place.width c.loop-number.number c.as_slice.result.now z
          c.loop-number.bank).nodes) same c.in_ok-row.ensures.nodes)
          (subst (λ z. c.in_ok-row.row ≡ (where_at kinds c.args.place.at c.args.place.width c.loop-number.number c.as_slice.result.now z
          c.loop-number.bank).value) same c.in_ok-row.ensures.form)
          c.loop-number.invariant.went;
      grows = extends_both c.args.bank.now c.loop-number.bank c.where_at.new.bank c.loop-number.invariant.grows c.where_at.ensures.grows;
      shape = λ n w q p.
          c.in_ok-row.ensures.shape n w
          (row_at c.args.bank.now c.loop-number.bank n w c.args.table.now c.loop-number.number c.as_slice.result.now _ c.loop-number.invariant.grows q
          c.loop-number-test.true
          (c.as_slice.ensures ∙ c.index-table-number.is))
          (subst (IsRow c.loop-number.bank n w) (sym same) (c.loop-number.invariant.shape n w q p));
      bank = c.where_at.ensures.bank;
    }

pub returns-in_err-row-clause-grows : goal.returns-in_err-row-clause-grows
returns-in_err-row-clause-grows g c =
    extends_both c.args.bank.now c.loop-number.bank c.where_at.new.bank c.loop-number.invariant.grows c.where_at.ensures.grows

pub loop-number-init : goal.loop-number-init
loop-number-init g c =
    let kinds = g.B.Book.kinds c.args.book.now in
    let step = λ (so_far : List Id) (number : ℕ) (row : List Id). where_at kinds c.args.place.at c.args.place.width number row so_far in
    record {
      went = fold_from_begins step c.args.past c.args.table.now c.args.bank.now;
      grows = extends_self c.args.bank.now;
      shape = λ n w q p. p;
      bank = c.requires.bank;
    }

pub returns-clause-nodes : goal.returns-clause-nodes
returns-clause-nodes g c =
    let kinds = g.B.Book.kinds c.args.book.now in
    let step = λ (so_far : List Id) (number : ℕ) (row : List Id). where_at kinds c.args.place.at c.args.place.width number row so_far in
    fold_from_nodes step c.args.past c.args.table.now c.args.bank.now c.loop-number.number c.loop-number.row c.loop-number.bank
    c.loop-number-test.false c.loop-number.invariant.went

pub returns-clause-form : goal.returns-clause-form
returns-clause-form g c =
    let kinds = g.B.Book.kinds c.args.book.now in
    let step = λ (so_far : List Id) (number : ℕ) (row : List Id). where_at kinds c.args.place.at c.args.place.width number row so_far in
    fold_from_value step c.args.past c.args.table.now c.args.bank.now c.loop-number.number c.loop-number.row c.loop-number.bank
    c.loop-number-test.false c.loop-number.invariant.went

pub returns-in_err-row-clause-nodes : goal.returns-in_err-row-clause-nodes
returns-in_err-row-clause-nodes g c = IfOk-from_err c.from_residual.result _ c.from_residual.ensures.0

pub returns-in_err-row-clause-form : goal.returns-in_err-row-clause-form
returns-in_err-row-clause-form g c = IfOk-from_err c.from_residual.result _ c.from_residual.ensures.0
