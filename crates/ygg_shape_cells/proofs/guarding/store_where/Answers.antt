use Rattle.ygg_shape_words.specs.ygg_bank_proofs_Exist.{keeps_values}
use Rattle.ygg_shape_cells.proofs.Guarded.{where_shape, where_value}
use Rattle.ygg_shape_words.proofs.Keeps.{inputs_stay, kept}
use Rattle.ygg_shape_words.specs.ygg_bank.Inputs.{InputsBelow}
use Rattle.ygg_shape_cells.specs.Guarding.{stored_where}
use Rattle.ygg_shape_cells.proofs.Keeps.{stored_where_keeps}
use Rattle.ygg_shape_cells.proofs.guarding.store_where.Goals as goal

pub returns-clause-shape : goal.returns-clause-shape
returns-clause-shape g c n w h p =
    where_shape (g.B.Book.kinds c.args.book.now) n w c.args.test c.args.table.now c.args.at c.args.row.now c.args.bank.now c.store_where_by.new.bank
    c.store_where_by.result c.len.ensures.bank
    c.store_where_by.ensures.bank c.store_where_by.ensures.grows c.requires.test c.requires.at c.store_where_by.ensures.nodes c.store_where_by.ensures.form h p

pub returns-clause-value : goal.returns-clause-value
returns-clause-value g c =
    where_value (g.B.Book.kinds c.args.book.now) c.args.test c.args.table.now c.args.at c.args.row.now c.args.bank.now c.store_where_by.new.bank
    c.store_where_by.result c.len.ensures.bank
    c.store_where_by.ensures.bank c.store_where_by.ensures.grows c.requires.test c.requires.at c.store_where_by.ensures.nodes
    c.store_where_by.ensures.form c.requires.table

pub returns-clause-keeps : goal.returns-clause-keeps
returns-clause-keeps g c = keeps_values c.args.bank.now c.store_where_by.new.bank c.store_where_by.ensures.grows

pub returns-clause-inputs : goal.returns-clause-inputs
returns-clause-inputs g c =
    let kinds = g.B.Book.kinds c.args.book.now in
    kept c.args.bank.now c.store_where_by.new.bank (stored_where kinds c.args.test c.args.table.now c.args.at c.args.row.now c.args.bank.now).nodes
    c.store_where_by.result c.store_where_by.ensures.nodes
    (λ next. stored_where_keeps kinds (InputsBelow next) (inputs_stay kinds next) c.args.test c.args.table.now c.args.at c.args.row.now c.args.bank.now)
