use Rattle.ygg_shape_words.specs.ygg_bank_proofs_Exist.{keeps_values}
use Rattle.ygg_shape_words.specs.ygg_bank.Inputs.{InputsBelow}
use Rattle.ygg_shape_words.proofs.Keeps.{inputs_stay, kept}
use Rattle.ygg_shape_cells.proofs.Whole.{zero_made_keeps, zero_shaped, zero_value}
use Rattle.ygg_shape_cells.specs.Wholes.{zero_made}
use Rattle.ygg_shape_cells.proofs.wholes.zero.Goals as goal

pub returns-clause-shape : goal.returns-clause-shape
returns-clause-shape g c =
    zero_shaped (g.B.Book.kinds c.args.book.now) c.args.shape c.args.bank.now c.zero_by.new.bank c.zero_by.result c.zero_by.ensures.bank c.requires
    c.zero_by.ensures.nodes c.zero_by.ensures.form

pub returns-clause-value : goal.returns-clause-value
returns-clause-value g c =
    zero_value (g.B.Book.kinds c.args.book.now) c.args.shape c.args.bank.now c.zero_by.new.bank c.zero_by.result c.zero_by.ensures.bank c.requires
    c.zero_by.ensures.nodes c.zero_by.ensures.form

pub returns-clause-keeps : goal.returns-clause-keeps
returns-clause-keeps g c = keeps_values c.args.bank.now c.zero_by.new.bank c.zero_by.ensures.grows

pub returns-clause-inputs : goal.returns-clause-inputs
returns-clause-inputs g c =
    let kinds = g.B.Book.kinds c.args.book.now in
    kept c.args.bank.now c.zero_by.new.bank (zero_made kinds c.args.shape c.args.bank.now).nodes c.zero_by.result c.zero_by.ensures.nodes
    (λ next. zero_made_keeps kinds (InputsBelow next) (inputs_stay kinds next) c.args.shape c.args.bank.now)
