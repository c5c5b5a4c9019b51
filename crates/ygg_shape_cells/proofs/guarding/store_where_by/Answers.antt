use Rattle.std.proofs.Common.{◌≡◌, OnOk, IfOk, List, subst, Some, sym, ◌∙◌, All}
use Rattle.ygg_shape_words.specs.ygg_bank.Makes.{Out}
use Rattle.ygg_shape_words.specs.ygg_bank.declared.node.Id.{Id}
use Rattle.ygg_shape_cells.proofs.Handed.{stored_where_as, stored_unknown}
use Rattle.ygg_shape_cells.specs.Terms.{IsRow}
use Rattle.ygg_shape_cells.proofs.guarding.store_where_by.Goals as goal

pub returns-in-Some-clause-nodes : goal.returns-in-Some-clause-nodes
returns-in-Some-clause-nodes g c =
    subst (λ (o : Out (List (List Id))). OnOk c.guarded_known.result (c.guarded_known.new.bank ≡ o.nodes))
    (stored_where_as (g.B.Book.kinds c.args.book.now) c.args.test c.args.table.now c.args.at c.args.row.now c.args.bank.now (Some c.in-Some.place)
    (sym c.known.ensures ∙ c.in-Some.is)) c.guarded_known.ensures.nodes

pub returns-in-Some-clause-form : goal.returns-in-Some-clause-form
returns-in-Some-clause-form g c =
    subst (λ (o : Out (List (List Id))). IfOk c.guarded_known.result (λ rows. rows ≡ o.value))
    (stored_where_as (g.B.Book.kinds c.args.book.now) c.args.test c.args.table.now c.args.at c.args.row.now c.args.bank.now (Some c.in-Some.place)
    (sym c.known.ensures ∙ c.in-Some.is)) c.guarded_known.ensures.form

pub returns-in-None-clause-nodes : goal.returns-in-None-clause-nodes
returns-in-None-clause-nodes g c =
    subst (λ (o : Out (List (List Id))). OnOk c.guard_all.result (c.guard_all.new.bank ≡ o.nodes))
    (stored_unknown (g.B.Book.kinds c.args.book.now) c.args.test c.args.table.now c.as_slice.result.now c.args.at c.args.row.now
    c.as_slice-in-None.result.now c.width-width.result
    c.args.bank.now (sym c.known.ensures ∙ c.in-None.is) c.width-width.ensures.value c.as_slice.ensures c.as_slice-in-None.ensures)
    c.guard_all.ensures.nodes

pub returns-in-None-clause-form : goal.returns-in-None-clause-form
returns-in-None-clause-form g c =
    subst (λ (o : Out (List (List Id))). IfOk c.guard_all.result (λ rows. rows ≡ o.value))
    (stored_unknown (g.B.Book.kinds c.args.book.now) c.args.test c.args.table.now c.as_slice.result.now c.args.at c.args.row.now
    c.as_slice-in-None.result.now c.width-width.result
    c.args.bank.now (sym c.known.ensures ∙ c.in-None.is) c.width-width.ensures.value c.as_slice.ensures c.as_slice-in-None.ensures)
    c.guard_all.ensures.form

pub guard_all-requires-clause-rows : goal.guard_all-requires-clause-rows
guard_all-requires-clause-rows g c =
    let h = c.requires.table in
    let i = h.is in
    record {
      words = h.words;
      width = h.width;
      rows_are = subst (λ z. All (IsRow c.args.bank.now h.words h.width) z) (sym c.as_slice.ensures) i.rows;
      row_is = subst (IsRow c.args.bank.now h.words h.width) (sym c.as_slice-in-None.ensures) h.row_is;
    }
