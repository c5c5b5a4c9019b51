use Rattle.std.proofs.Common.{List, sym, ap, ◌∙◌, subst}
use Rattle.ygg_shape_cells.proofs.Fit.{rows_fit}
use Rattle.ygg_shape.specs.Equates.{equal_within}
use Rattle.ygg_shape_cells.specs.Pairs.{PairsFit}
use Rattle.ygg_shape.specs.declared.equating.TheConstants.{ROW_DEPTH}
use Rattle.ygg_shape_cells.specs.declared.pairs.Pair.{Pair}
use Rattle.ygg_shape.proofs.equating.equate_rows_by.Goals as goal

pub equal_within-requires-clause-pairs : goal.equal_within-requires-clause-pairs
equal_within-requires-clause-pairs g c =
    subst (PairsFit c.args.bank.now) (sym (c.as_slice.ensures.value ∙ c.in_ok-pairs.ensures))
    (rows_fit c.args.bank.now c.args.one.now c.args.two.now c.requires.rows)

pub returns-clause-nodes : goal.returns-clause-nodes
returns-clause-nodes g c =
    let kinds = g.B.Book.kinds c.args.book.now in
    let m = c.in_ok-answer.ensures.made in
    m.nodes ∙ ap (λ (ps : List Pair). (equal_within kinds ROW_DEPTH ps c.args.bank.now).nodes) (c.as_slice.ensures.value ∙ c.in_ok-pairs.ensures)

pub returns-clause-form : goal.returns-clause-form
returns-clause-form g c =
    let kinds = g.B.Book.kinds c.args.book.now in
    let m = c.in_ok-answer.ensures.made in
    m.value ∙ ap (λ (ps : List Pair). (equal_within kinds ROW_DEPTH ps c.args.bank.now).value) (c.as_slice.ensures.value ∙ c.in_ok-pairs.ensures)
