use Rattle.ygg_shape_words.specs.ygg_bank_proofs_Widths.{wider, extends_both}
use Rattle.ygg_shape_cells.proofs.Wider.{rows_wider}
use Rattle.std.proofs.lemmas.Result.{IfOk-from_err}
use Rattle.std.proofs.Common.{◌≡◌, OnOk, IfOk, List, subst, Some, sym, ◌∙◌}
use Rattle.ygg_shape_words.specs.ygg_bank.Makes.{Out}
use Rattle.ygg_shape_words.specs.ygg_bank.declared.node.Id.{Id}
use Rattle.ygg_shape_cells.proofs.Handed.{selected_as, chosen_goes}
use Rattle.ygg_shape_cells.proofs.selecting.select_by_number.Goals as goal

pub choose-requires-clause-place : goal.choose-requires-clause-place
choose-requires-clause-place g c = wider c.args.bank.now c.zeros.new.bank c.args.at c.width-width.result c.zeros.ensures.grows c.width-width.ensures.width

pub choose-requires-clause-rows : goal.choose-requires-clause-rows
choose-requires-clause-rows g c =
    let t = c.requires.table in
    let h = t.is in
    record {
      words = t.words;
      width = t.width;
      rows_are = rows_wider c.args.bank.now c.zeros.new.bank t.words t.width c.args.table.now c.zeros.ensures.grows h.rows;
      row_is = c.in_ok-past-in-None.ensures.shape t.words t.width h;
    }

pub returns-in_ok-past-in-None-clause-grows : goal.returns-in_ok-past-in-None-clause-grows
returns-in_ok-past-in-None-clause-grows g c =
    extends_both c.args.bank.now c.zeros.new.bank c.choose.new.bank c.zeros.ensures.grows c.choose.ensures.grows

pub returns-in-Some-clause-nodes : goal.returns-in-Some-clause-nodes
returns-in-Some-clause-nodes g c =
    subst (λ (o : Out (List Id)). OnOk c.row_or_zeros.result (c.row_or_zeros.new.bank ≡ o.nodes))
    (selected_as (g.B.Book.kinds c.args.book.now) c.args.table.now c.args.at c.args.bank.now (Some c.in-Some.place) (sym c.known.ensures ∙ c.in-Some.is))
    c.row_or_zeros.ensures.nodes

pub returns-in_ok-past-in-None-clause-nodes : goal.returns-in_ok-past-in-None-clause-nodes
returns-in_ok-past-in-None-clause-nodes g c =
    subst (λ (o : Out (List Id)). OnOk c.choose.result (c.choose.new.bank ≡ o.nodes))
    (chosen_goes (g.B.Book.kinds c.args.book.now) c.args.table.now c.args.at c.width-width.result c.in_ok-past-in-None.past c.args.bank.now c.zeros.new.bank
    (sym c.known.ensures ∙ c.in-None.is) c.width-width.ensures.value c.in_ok-past-in-None.ensures.form c.in_ok-past-in-None.ensures.nodes)
    c.choose.ensures.nodes

pub returns-in_err-past-in-None-clause-nodes : goal.returns-in_err-past-in-None-clause-nodes
returns-in_err-past-in-None-clause-nodes g c = IfOk-from_err c.from_residual.result _ c.from_residual.ensures.0

pub returns-in-Some-clause-form : goal.returns-in-Some-clause-form
returns-in-Some-clause-form g c =
    subst (λ (o : Out (List Id)). IfOk c.row_or_zeros.result (λ row. row ≡ o.value))
    (selected_as (g.B.Book.kinds c.args.book.now) c.args.table.now c.args.at c.args.bank.now (Some c.in-Some.place) (sym c.known.ensures ∙ c.in-Some.is))
    c.row_or_zeros.ensures.form

pub returns-in_ok-past-in-None-clause-form : goal.returns-in_ok-past-in-None-clause-form
returns-in_ok-past-in-None-clause-form g c =
    subst (λ (o : Out (List Id)). IfOk c.choose.result (λ row. row ≡ o.value))
    (chosen_goes (g.B.Book.kinds c.args.book.now) c.args.table.now c.args.at c.width-width.result c.in_ok-past-in-None.past c.args.bank.now c.zeros.new.bank
    (sym c.known.ensures ∙ c.in-None.is) c.width-width.ensures.value c.in_ok-past-in-None.ensures.form c.in_ok-past-in-None.ensures.nodes)
    c.choose.ensures.form

pub returns-in_err-past-in-None-clause-form : goal.returns-in_err-past-in-None-clause-form
returns-in_err-past-in-None-clause-form g c = IfOk-from_err c.from_residual.result _ c.from_residual.ensures.0
