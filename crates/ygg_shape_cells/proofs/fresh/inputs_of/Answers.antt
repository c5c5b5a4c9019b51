use Rattle.ygg_shape_words.specs.ygg_bank_proofs_Exist.{keeps_values}
use Rattle.ygg_shape_cells.proofs.Freshness.{fresh_value, fresh_shaped, fresh_inputs}
use Rattle.ygg_shape_cells.proofs.fresh.inputs_of.Goals as goal

pub returns-clause-shape : goal.returns-clause-shape
returns-clause-shape g c =
    fresh_shaped (g.B.Book.kinds c.args.book.now) c.args.number c.args.shape c.args.bank.now c.inputs_by.new.bank c.inputs_by.result
    c.inputs_by.ensures.bank c.requires.shape c.requires.below c.inputs_by.ensures.nodes c.inputs_by.ensures.form

pub returns-clause-value : goal.returns-clause-value
returns-clause-value g c =
    fresh_value (g.B.Book.kinds c.args.book.now) c.args.number c.args.shape c.args.bank.now c.inputs_by.new.bank c.inputs_by.result
    c.inputs_by.ensures.bank c.requires.shape c.requires.below c.inputs_by.ensures.nodes c.inputs_by.ensures.form

pub returns-clause-inputs : goal.returns-clause-inputs
returns-clause-inputs g c =
    fresh_inputs (g.B.Book.kinds c.args.book.now) c.args.number c.args.shape c.args.bank.now c.inputs_by.new.bank c.inputs_by.result
    c.requires.below c.inputs_by.ensures.nodes

pub returns-clause-keeps : goal.returns-clause-keeps
returns-clause-keeps g c = keeps_values c.args.bank.now c.inputs_by.new.bank c.inputs_by.ensures.grows
