use Rattle.std.proofs.Common.{List, sym, ap, ◌∙◌, subst}
use Rattle.ygg_shape_words.specs.ygg_bank_proofs_Widths.{wider}
use Rattle.ygg_shape_words.specs.ygg_bank.Makes.{Out}
use Rattle.ygg_shape_words.specs.ygg_bank.declared.node.Id.{Id}
use Rattle.ygg_shape_words.proofs.Each.{each_ok, on_ok}
use Rattle.ygg_shape_cells.proofs.Pruned.{row_stands, rows_alike_given, written_goes}
use Rattle.ygg_shape_cells.specs.Terms.{IsRow}
use Rattle.ygg_shape_cells.proofs.pruning.write_row.Goals as goal

pub given_row-requires-clause-row : goal.given_row-requires-clause-row
given_row-requires-clause-row g c = let h = c.requires.rows in row_stands c.args.bank.now h.words h.width c.args.yes.now h.one_is

pub merge_row-requires-clause-test : goal.merge_row-requires-clause-test
merge_row-requires-clause-test g c = wider c.args.bank.now c.given_row.new.bank c.args.test 1 c.given_row.ensures.grows c.requires.test

pub merge_row-requires-clause-rows : goal.merge_row-requires-clause-rows
merge_row-requires-clause-rows g c =
    let h = c.requires.rows in
    let new = c.given_row.new.bank in
    rows_alike_given c.args.bank.now new c.args.yes.now c.args.no.now c.as_slice.result.now h c.given_row.ensures.grows
    (subst (IsRow new h.words h.width) (sym c.as_slice.ensures) (c.in_ok-pruned.ensures.shape h.words h.width h.one_is))

pub returns-clause-nodes : goal.returns-clause-nodes
returns-clause-nodes g c =
    let e = written_goes (g.B.Book.kinds c.args.book.now) c.args.test c.args.met c.args.yes.now c.args.no.now c.as_slice.result.now c.in_ok-pruned.pruned
    c.args.bank.now c.given_row.new.bank c.as_slice.ensures c.in_ok-pruned.ensures.form c.in_ok-pruned.ensures.nodes in
    on_ok c.merge_row.result c.merge_row.ensures.nodes (λ n. n ∙ ap (λ (o : Out (List Id)). o.nodes) e)

pub returns-clause-form : goal.returns-clause-form
returns-clause-form g c =
    let e = written_goes (g.B.Book.kinds c.args.book.now) c.args.test c.args.met c.args.yes.now c.args.no.now c.as_slice.result.now c.in_ok-pruned.pruned
    c.args.bank.now c.given_row.new.bank c.as_slice.ensures c.in_ok-pruned.ensures.form c.in_ok-pruned.ensures.nodes in
    each_ok c.merge_row.result c.merge_row.ensures.nodes c.merge_row.ensures.form (λ r n f. f ∙ ap (λ (o : Out (List Id)). o.value) e)
