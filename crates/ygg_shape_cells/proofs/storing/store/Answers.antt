use Rattle.ygg_shape_words.specs.ygg_bank_proofs_Exist.{keeps_values}
use Rattle.ygg_shape_cells.proofs.Answered.{stored_shape, stored_count, stored_value}
use Rattle.ygg_shape_words.proofs.Keeps.{inputs_stay, kept}
use Rattle.ygg_shape_words.specs.ygg_bank.Inputs.{InputsBelow}
use Rattle.ygg_shape_cells.specs.Making.{stored}
use Rattle.ygg_shape_cells.proofs.Keeps.{stored_keeps}
use Rattle.ygg_shape_cells.proofs.storing.store.Goals as goal

pub returns-clause-shape : goal.returns-clause-shape
returns-clause-shape g c n w h p =
    stored_shape (g.B.Book.kinds c.args.book.now) n w c.args.table.now c.args.at c.args.row.now c.args.bank.now c.store_by.new.bank c.store_by.result
    c.len.ensures.bank c.store_by.ensures.bank c.requires.at
    c.store_by.ensures.nodes c.store_by.ensures.form h p

pub returns-clause-count : goal.returns-clause-count
returns-clause-count g c = stored_count (g.B.Book.kinds c.args.book.now) c.args.table.now c.args.at c.args.row.now c.args.bank.now c.store_by.result
    c.store_by.ensures.form

pub returns-clause-value : goal.returns-clause-value
returns-clause-value g c =
    stored_value (g.B.Book.kinds c.args.book.now) c.args.table.now c.args.at c.args.row.now c.args.bank.now c.store_by.new.bank c.store_by.result
    c.len.ensures.bank c.store_by.ensures.bank
    c.store_by.ensures.grows c.requires.at c.store_by.ensures.nodes c.store_by.ensures.form c.requires.table

pub returns-clause-keeps : goal.returns-clause-keeps
returns-clause-keeps g c = keeps_values c.args.bank.now c.store_by.new.bank c.store_by.ensures.grows

pub returns-clause-inputs : goal.returns-clause-inputs
returns-clause-inputs g c =
    let kinds = g.B.Book.kinds c.args.book.now in
    kept c.args.bank.now c.store_by.new.bank (stored kinds c.args.table.now c.args.at c.args.row.now c.args.bank.now).nodes c.store_by.result
    c.store_by.ensures.nodes
    (λ next. stored_keeps kinds (InputsBelow next) (inputs_stay kinds next) c.args.table.now c.args.at c.args.row.now c.args.bank.now)
