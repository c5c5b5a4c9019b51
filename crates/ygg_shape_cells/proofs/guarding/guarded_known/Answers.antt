use Rattle.std.proofs.Common.{◌≡◌, Some, None, length, slice_get, refl, sym, ap, ◌∙◌}
use Rattle.std.proofs.lemmas.Option.{slice_get_read, slice_get_past}
use Rattle.ygg_value.specs.Number.{Number}
use Rattle.ygg_shape_words.specs.ygg_bank_proofs_Widths.{extends_self}
use Rattle.ygg_shape_cells.proofs.Known.{alike_there, written_nodes, written_form, kept_nodes, kept_form}
use Rattle.ygg_shape_cells.proofs.guarding.guarded_known.Goals as goal

pub merge_row-requires-clause-bank : goal.merge_row-requires-clause-bank
merge_row-requires-clause-bank g c = c.requires.bank

pub merge_row-requires-clause-test : goal.merge_row-requires-clause-test
merge_row-requires-clause-test g c = c.requires.test

pub merge_row-requires-clause-rows : goal.merge_row-requires-clause-rows
merge_row-requires-clause-rows g c =
    let table = c.args.table.now in
    let old = c.in-Some.old.now in
    let seen = c.as_slice.result.now in
    let place : c.place.inside.bits ≡ c.args.place.bits = ap (λ (n : Number). n.bits) c.place.view_is in
    let there : slice_get table c.args.place.bits ≡ Some old = ap (slice_get table) (sym place)
    ∙ ap (λ z. slice_get z c.place.inside.bits) (sym c.as_slice.ensures)
    ∙ slice_get_read seen (length seen) c.place.inside.bits old refl c.in-Some.ensures.lookup.3.0 c.in-Some.ensures.lookup.1 in
    alike_there c.args.bank.now table c.args.row.now old c.as_slice-in-Some.result.now c.as_slice-in-Some-2.result.now
    c.args.place.bits c.requires.table there c.as_slice-in-Some.ensures c.as_slice-in-Some-2.ensures

pub returns-in_err-new-in-Some-clause-grows : goal.returns-in_err-new-in-Some-clause-grows
returns-in_err-new-in-Some-clause-grows g c = c.merge_row.ensures.grows

pub returns-in_err-new-in-Some-clause-bank : goal.returns-in_err-new-in-Some-clause-bank
returns-in_err-new-in-Some-clause-bank g c = c.merge_row.ensures.bank

pub returns-in_ok-new-in-Some-clause-nodes : goal.returns-in_ok-new-in-Some-clause-nodes
returns-in_ok-new-in-Some-clause-nodes g c =
    let table = c.args.table.now in
    let old = c.in-Some.old.now in
    let seen = c.as_slice.result.now in
    let place : c.place.inside.bits ≡ c.args.place.bits = ap (λ (n : Number). n.bits) c.place.view_is in
    let there : slice_get table c.args.place.bits ≡ Some old = ap (slice_get table) (sym place)
    ∙ ap (λ z. slice_get z c.place.inside.bits) (sym c.as_slice.ensures)
    ∙ slice_get_read seen (length seen) c.place.inside.bits old refl c.in-Some.ensures.lookup.3.0 c.in-Some.ensures.lookup.1 in
    written_nodes (g.B.Book.kinds c.args.book.now) c.args.bank.now _ c.args.test table c.args.row.now old c.as_slice-in-Some.result.now
    c.as_slice-in-Some-2.result.now
    c.args.place.bits c.merge_row.new.bank c.put_row.result there c.as_slice-in-Some.ensures c.as_slice-in-Some-2.ensures c.in_ok-new-in-Some.ensures.nodes

pub returns-in_ok-new-in-Some-clause-form : goal.returns-in_ok-new-in-Some-clause-form
returns-in_ok-new-in-Some-clause-form g c =
    let table = c.args.table.now in
    let old = c.in-Some.old.now in
    let seen = c.as_slice.result.now in
    let place : c.place.inside.bits ≡ c.args.place.bits = ap (λ (n : Number). n.bits) c.place.view_is in
    let there : slice_get table c.args.place.bits ≡ Some old = ap (slice_get table) (sym place)
    ∙ ap (λ z. slice_get z c.place.inside.bits) (sym c.as_slice.ensures)
    ∙ slice_get_read seen (length seen) c.place.inside.bits old refl c.in-Some.ensures.lookup.3.0 c.in-Some.ensures.lookup.1 in
    written_form (g.B.Book.kinds c.args.book.now) c.args.bank.now _ c.args.test table c.args.row.now old c.as_slice-in-Some.result.now
    c.as_slice-in-Some-2.result.now _
    c.args.place.bits c.put_row.result there c.as_slice-in-Some.ensures c.as_slice-in-Some-2.ensures c.in_ok-new-in-Some.ensures.form c.put_row.ensures

pub returns-in_ok-new-in-Some-clause-grows : goal.returns-in_ok-new-in-Some-clause-grows
returns-in_ok-new-in-Some-clause-grows g c = c.merge_row.ensures.grows

pub returns-in_ok-new-in-Some-clause-bank : goal.returns-in_ok-new-in-Some-clause-bank
returns-in_ok-new-in-Some-clause-bank g c = c.merge_row.ensures.bank

pub returns-in-None-clause-nodes : goal.returns-in-None-clause-nodes
returns-in-None-clause-nodes g c =
    let table = c.args.table.now in
    let seen = c.as_slice.result.now in
    let place : c.place.inside.bits ≡ c.args.place.bits = ap (λ (n : Number). n.bits) c.place.view_is in
    let none : slice_get table c.args.place.bits ≡ None = ap (slice_get table) (sym place) ∙ ap (λ z. slice_get z c.place.inside.bits) (sym c.as_slice.ensures)
    ∙ slice_get_past seen c.place.inside.bits c.in-None.ensures.lookup.3 in
    kept_nodes (g.B.Book.kinds c.args.book.now) c.args.bank.now _ c.args.test table c.args.row.now c.args.place.bits c.copy.result none

pub returns-in-None-clause-form : goal.returns-in-None-clause-form
returns-in-None-clause-form g c =
    let table = c.args.table.now in
    let seen = c.as_slice.result.now in
    let place : c.place.inside.bits ≡ c.args.place.bits = ap (λ (n : Number). n.bits) c.place.view_is in
    let none : slice_get table c.args.place.bits ≡ None = ap (slice_get table) (sym place) ∙ ap (λ z. slice_get z c.place.inside.bits) (sym c.as_slice.ensures)
    ∙ slice_get_past seen c.place.inside.bits c.in-None.ensures.lookup.3 in
    kept_form (g.B.Book.kinds c.args.book.now) c.args.bank.now _ c.args.test table c.args.row.now c.args.place.bits c.copy.result none c.copy.ensures

pub returns-in-None-clause-grows : goal.returns-in-None-clause-grows
returns-in-None-clause-grows g c = extends_self c.args.bank.now

pub returns-in-None-clause-bank : goal.returns-in-None-clause-bank
returns-in-None-clause-bank g c = c.requires.bank
