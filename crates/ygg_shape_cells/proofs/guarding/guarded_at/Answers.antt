use Rattle.std.proofs.Common.{nat_lt, ◌^◌, ◌∙◌, sym}
use Rattle.std.proofs.lemmas.Bool.{ltb-true}
use Rattle.ygg_shape_words.specs.ygg_bank_proofs_Widths.{extends_self}
use Rattle.ygg_shape_cells.specs.Guarding.{guarded_split}
use Rattle.ygg_shape_cells.proofs.Handed.{then_nodes, then_form, else_nodes, else_form}
use Rattle.ygg_shape_cells.proofs.guarding.guarded_at.Goals as goal

pub guarded_split-requires-clause-number : goal.guarded_split-requires-clause-number
guarded_split-requires-clause-number g c = ltb-true c.args.number (2 ^ c.args.guard.width) (sym c.fits.ensures ∙ c.if-fits.true)

pub returns-then-fits-clause-nodes : goal.returns-then-fits-clause-nodes
returns-then-fits-clause-nodes g c =
    then_nodes (nat_lt c.args.number (2 ^ c.args.guard.width)) (guarded_split (g.B.Book.kinds c.args.book.now) c.args.guard.test c.args.guard.at
    c.args.guard.width c.args.number c.args.yes.now c.args.no.now) c.args.no.now
    c.args.bank.now
    c.guarded_split.new.bank c.guarded_split.result (sym c.if-fits.true ∙ c.fits.ensures) c.guarded_split.ensures.nodes

pub returns-then-fits-clause-form : goal.returns-then-fits-clause-form
returns-then-fits-clause-form g c =
    then_form (nat_lt c.args.number (2 ^ c.args.guard.width)) (guarded_split (g.B.Book.kinds c.args.book.now) c.args.guard.test c.args.guard.at
    c.args.guard.width c.args.number c.args.yes.now c.args.no.now) c.args.no.now
    c.args.bank.now
    c.guarded_split.new.bank c.guarded_split.result (sym c.if-fits.true ∙ c.fits.ensures) c.guarded_split.ensures.form

pub returns-else-fits-clause-nodes : goal.returns-else-fits-clause-nodes
returns-else-fits-clause-nodes g c =
    else_nodes (nat_lt c.args.number (2 ^ c.args.guard.width)) (guarded_split (g.B.Book.kinds c.args.book.now) c.args.guard.test c.args.guard.at
    c.args.guard.width c.args.number c.args.yes.now c.args.no.now) c.args.no.now
    c.args.bank.now c.args.bank.now c.from_slice.result
    (sym c.if-fits.false ∙ c.fits.ensures)

pub returns-else-fits-clause-form : goal.returns-else-fits-clause-form
returns-else-fits-clause-form g c =
    else_form (nat_lt c.args.number (2 ^ c.args.guard.width)) (guarded_split (g.B.Book.kinds c.args.book.now) c.args.guard.test c.args.guard.at
    c.args.guard.width c.args.number c.args.yes.now c.args.no.now) c.args.no.now
    c.args.bank.now c.args.bank.now c.from_slice.result
    (sym c.if-fits.false ∙ c.fits.ensures) c.from_slice.ensures

pub returns-else-fits-clause-grows : goal.returns-else-fits-clause-grows
returns-else-fits-clause-grows g c = extends_self c.args.bank.now
