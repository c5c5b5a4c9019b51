use Rattle.std.proofs.Common.{◌≡◌, Some, None, length, slice_get, refl, sym, ap, ◌∙◌}
use Rattle.std.proofs.lemmas.Option.{slice_get_read, slice_get_past}
use Rattle.ygg_value.specs.Number.{Number}
use Rattle.ygg_shape_words.specs.ygg_bank_proofs_Widths.{extends_self}
use Rattle.ygg_shape_cells.specs.Making.{width_in}
use Rattle.ygg_shape_cells.specs.Terms.{words_in}
use Rattle.ygg_shape_cells.proofs.Known.{read_nodes, read_form, past_nodes, past_form}
use Rattle.ygg_shape_cells.proofs.cells.row_or_zeros.Goals as goal

pub zeros-requires : goal.zeros-requires
zeros-requires g c = record { table = c.requires.table }

pub returns-in-Some-clause-nodes : goal.returns-in-Some-clause-nodes
returns-in-Some-clause-nodes g c =
    let table = c.args.table.now in
    let row = c.in-Some.row.now in
    let there : slice_get table c.args.place.bits ≡ Some row = sym (ap (λ (n : Number). slice_get table n.bits) c.place.view_is)
    ∙ slice_get_read table (length table) c.place.inside.bits row refl c.in-Some.ensures.lookup.3.0 c.in-Some.ensures.lookup.1 in
    read_nodes (g.B.Book.kinds c.args.book.now) c.args.bank.now _ (words_in table) (width_in c.args.bank.now table) row c.copy.result there

pub returns-in-Some-clause-form : goal.returns-in-Some-clause-form
returns-in-Some-clause-form g c =
    let table = c.args.table.now in
    let row = c.in-Some.row.now in
    let there : slice_get table c.args.place.bits ≡ Some row = sym (ap (λ (n : Number). slice_get table n.bits) c.place.view_is)
    ∙ slice_get_read table (length table) c.place.inside.bits row refl c.in-Some.ensures.lookup.3.0 c.in-Some.ensures.lookup.1 in
    read_form (g.B.Book.kinds c.args.book.now) c.args.bank.now _ (words_in table) (width_in c.args.bank.now table) row c.copy.result there c.copy.ensures

pub returns-in-Some-clause-grows : goal.returns-in-Some-clause-grows
returns-in-Some-clause-grows g c = extends_self c.args.bank.now

pub returns-in-Some-clause-bank : goal.returns-in-Some-clause-bank
returns-in-Some-clause-bank g c = c.requires.bank

pub returns-in-None-clause-nodes : goal.returns-in-None-clause-nodes
returns-in-None-clause-nodes g c =
    let table = c.args.table.now in
    let none : slice_get table c.args.place.bits ≡ None = sym (ap (λ (n : Number). slice_get table n.bits) c.place.view_is)
    ∙ slice_get_past table c.place.inside.bits c.in-None.ensures.lookup.3 in
    past_nodes (g.B.Book.kinds c.args.book.now) c.args.bank.now _ (words_in table) (width_in c.args.bank.now table) c.zeros.new.bank c.zeros.result none
    c.zeros.ensures.nodes

pub returns-in-None-clause-form : goal.returns-in-None-clause-form
returns-in-None-clause-form g c =
    let table = c.args.table.now in
    let none : slice_get table c.args.place.bits ≡ None = sym (ap (λ (n : Number). slice_get table n.bits) c.place.view_is)
    ∙ slice_get_past table c.place.inside.bits c.in-None.ensures.lookup.3 in
    past_form (g.B.Book.kinds c.args.book.now) c.args.bank.now _ (words_in table) (width_in c.args.bank.now table) c.zeros.result none c.zeros.ensures.form

pub returns-in-None-clause-grows : goal.returns-in-None-clause-grows
returns-in-None-clause-grows g c = c.zeros.ensures.grows

pub returns-in-None-clause-bank : goal.returns-in-None-clause-bank
returns-in-None-clause-bank g c = c.zeros.ensures.bank
