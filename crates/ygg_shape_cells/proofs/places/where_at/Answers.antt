use Rattle.std.proofs.Common.{◌<◌, ◌^◌, nat_lt, ◌∙◌, sym}
use Rattle.ygg_shape_cells.proofs.Answered.{split_shape}
use Rattle.std.proofs.lemmas.Bool.{ltb-true}
use Rattle.ygg_shape_words.specs.ygg_bank_proofs_Widths.{extends_self}
use Rattle.ygg_shape_cells.specs.Making.{split_at}
use Rattle.ygg_shape_cells.proofs.Handed.{then_nodes, then_form, else_nodes, else_form}
use Rattle.ygg_shape_cells.proofs.places.where_at.Goals as goal

pub returns-then-fits-clause-shape : goal.returns-then-fits-clause-shape
returns-then-fits-clause-shape g c n w p q =
    let below : c.args.number < 2 ^ c.args.place.width = ltb-true c.args.number (2 ^ c.args.place.width) (sym c.fits.ensures ∙ c.if-fits.true) in
    split_shape (g.B.Book.kinds c.args.book.now) n w c.args.place.width c.args.number c.args.place.at c.args.yes.now c.args.no.now c.args.bank.now
    c.split_at.new.bank c.split_at.result
    c.split_at.ensures.bank c.requires.place c.requires.width below c.split_at.ensures.nodes c.split_at.ensures.form p q

pub split_at-requires-clause-number : goal.split_at-requires-clause-number
split_at-requires-clause-number g c = ltb-true c.args.number (2 ^ c.args.place.width) (sym c.fits.ensures ∙ c.if-fits.true)

pub returns-then-fits-clause-nodes : goal.returns-then-fits-clause-nodes
returns-then-fits-clause-nodes g c =
    then_nodes (nat_lt c.args.number (2 ^ c.args.place.width)) (split_at (g.B.Book.kinds c.args.book.now) c.args.place.at c.args.place.width c.args.number
    c.args.yes.now c.args.no.now) c.args.no.now
    c.args.bank.now
    c.split_at.new.bank c.split_at.result (sym c.if-fits.true ∙ c.fits.ensures) c.split_at.ensures.nodes

pub returns-then-fits-clause-form : goal.returns-then-fits-clause-form
returns-then-fits-clause-form g c =
    then_form (nat_lt c.args.number (2 ^ c.args.place.width)) (split_at (g.B.Book.kinds c.args.book.now) c.args.place.at c.args.place.width c.args.number
    c.args.yes.now c.args.no.now) c.args.no.now
    c.args.bank.now
    c.split_at.new.bank c.split_at.result (sym c.if-fits.true ∙ c.fits.ensures) c.split_at.ensures.form

pub returns-else-fits-clause-nodes : goal.returns-else-fits-clause-nodes
returns-else-fits-clause-nodes g c =
    else_nodes (nat_lt c.args.number (2 ^ c.args.place.width)) (split_at (g.B.Book.kinds c.args.book.now) c.args.place.at c.args.place.width c.args.number
    c.args.yes.now c.args.no.now) c.args.no.now
    c.args.bank.now c.args.bank.now c.from_slice.result
    (sym c.if-fits.false ∙ c.fits.ensures)

pub returns-else-fits-clause-form : goal.returns-else-fits-clause-form
returns-else-fits-clause-form g c =
    else_form (nat_lt c.args.number (2 ^ c.args.place.width)) (split_at (g.B.Book.kinds c.args.book.now) c.args.place.at c.args.place.width c.args.number
    c.args.yes.now c.args.no.now) c.args.no.now
    c.args.bank.now c.args.bank.now c.from_slice.result
    (sym c.if-fits.false ∙ c.fits.ensures) c.from_slice.ensures

pub returns-else-fits-clause-grows : goal.returns-else-fits-clause-grows
returns-else-fits-clause-grows g c = extends_self c.args.bank.now
