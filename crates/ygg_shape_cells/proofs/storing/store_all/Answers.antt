use Rattle.std.proofs.Common.{◌∙◌, ◌+◌, ℕ, List, sym, subst}
use Rattle.ygg_shape_words.specs.ygg_bank_proofs_Widths.{wider, extends_both, extends_self}
use Rattle.ygg_shape_cells.proofs.Wider.{row_at, row_wider}
use Rattle.ygg_shape_words.specs.ygg_bank.declared.node.Id.{Id}
use Rattle.ygg_shape_cells.specs.Making.{where_at}
use Rattle.ygg_shape_cells.proofs.Steps.{EachFrom, each_from_goes, each_from_begins, each_from_nodes, each_from_value}
use Rattle.std.proofs.lemmas.Result.{IfOk-from_err}
use Rattle.ygg_shape_cells.proofs.storing.store_all.Goals as goal

pub where_at-requires-clause-place : goal.where_at-requires-clause-place
where_at-requires-clause-place g c = wider c.args.bank.now c.loop-number.bank c.args.place.at c.args.place.width c.loop-number.invariant.grows c.requires.place

pub where_at-requires-clause-rows : goal.where_at-requires-clause-rows
where_at-requires-clause-rows g c =
    let r = c.requires.rows in
    record {
      words = r.words;
      width = r.width;
      one_is = row_wider c.args.bank.now c.loop-number.bank r.words r.width c.args.new.now c.loop-number.invariant.grows r.row_is;
      two_is = row_at c.args.bank.now c.loop-number.bank r.words r.width c.args.table.now c.loop-number.number c.as_slice.result.now _
          c.loop-number.invariant.grows r.rows_are c.loop-number-test.true
          (c.as_slice.ensures ∙ c.index-table-number.is);
    }

pub returns-in_err-row-clause-grows : goal.returns-in_err-row-clause-grows
returns-in_err-row-clause-grows g c =
    extends_both c.args.bank.now c.loop-number.bank c.where_at.new.bank c.loop-number.invariant.grows c.where_at.ensures.grows

pub returns-in_err-push-clause-grows : goal.returns-in_err-push-clause-grows
returns-in_err-push-clause-grows g c =
    extends_both c.args.bank.now c.loop-number.bank c.where_at.new.bank c.loop-number.invariant.grows c.where_at.ensures.grows

pub loop-number-preserved : goal.loop-number-preserved
loop-number-preserved g c =
    let kinds = g.B.Book.kinds c.args.book.now in
    let step = λ (number : ℕ) (row : List Id). where_at kinds c.args.place.at c.args.place.width number c.args.new.now row in
    let table = c.args.table.now in
    let number = c.loop-number.number in
    let old = c.args.bank.now in
    let next = c.where_at.new.bank in
    record {
      went = subst (λ z. EachFrom step table old (number + 1) z next) (sym c.in_ok-push.ensures.ok)
          (each_from_goes step table old number c.loop-number.rows c.loop-number.bank c.as_slice.result.now _ c.in_ok-row.row next c.loop-number-test.true
          (c.as_slice.ensures ∙ c.index-table-number.is) c.in_ok-row.ensures.nodes c.in_ok-row.ensures.form c.loop-number.invariant.went);
      grows = extends_both old c.loop-number.bank next c.loop-number.invariant.grows c.where_at.ensures.grows;
      bank = c.where_at.ensures.bank;
    }

pub loop-number-init : goal.loop-number-init
loop-number-init g c =
    let kinds = g.B.Book.kinds c.args.book.now in
    let step = λ (number : ℕ) (row : List Id). where_at kinds c.args.place.at c.args.place.width number c.args.new.now row in
    record {
      went = subst (λ z. EachFrom step c.args.table.now c.args.bank.now 0 z c.args.bank.now) (sym c.new-rows.ensures)
          (each_from_begins step c.args.table.now c.args.bank.now);
      grows = extends_self c.args.bank.now;
      bank = c.requires.bank;
    }

pub returns-clause-nodes : goal.returns-clause-nodes
returns-clause-nodes g c =
    let kinds = g.B.Book.kinds c.args.book.now in
    let step = λ (number : ℕ) (row : List Id). where_at kinds c.args.place.at c.args.place.width number c.args.new.now row in
    each_from_nodes step c.args.table.now c.args.bank.now c.loop-number.number c.loop-number.rows c.loop-number.bank c.loop-number-test.false
    c.loop-number.invariant.went

pub returns-clause-form : goal.returns-clause-form
returns-clause-form g c =
    let kinds = g.B.Book.kinds c.args.book.now in
    let step = λ (number : ℕ) (row : List Id). where_at kinds c.args.place.at c.args.place.width number c.args.new.now row in
    each_from_value step c.args.table.now c.args.bank.now c.loop-number.number c.loop-number.rows c.loop-number.bank c.loop-number-test.false
    c.loop-number.invariant.went

pub returns-in_err-row-clause-nodes : goal.returns-in_err-row-clause-nodes
returns-in_err-row-clause-nodes g c = IfOk-from_err c.from_residual.result _ c.from_residual.ensures.0

pub returns-in_err-row-clause-form : goal.returns-in_err-row-clause-form
returns-in_err-row-clause-form g c = IfOk-from_err c.from_residual.result _ c.from_residual.ensures.0

pub returns-in_err-push-clause-nodes : goal.returns-in_err-push-clause-nodes
returns-in_err-push-clause-nodes g c = IfOk-from_err c.from_residual-in_err-push.result _ c.from_residual-in_err-push.ensures.0

pub returns-in_err-push-clause-form : goal.returns-in_err-push-clause-form
returns-in_err-push-clause-form g c = IfOk-from_err c.from_residual-in_err-push.result _ c.from_residual-in_err-push.ensures.0
