use Rattle.ygg_shape_cells.specs.ygg_bank_proofs_Exist.{keeps_values}
use Rattle.ygg_shape.proofs.Compared.{compared_width, compared_value}
use Rattle.ygg_shape_cells.specs.ygg_shape_words_proofs_Keeps.{inputs_stay, kept}
use Rattle.ygg_shape_cells.specs.ygg_bank.Inputs.{InputsBelow}
use Rattle.ygg_shape.specs.Comparing.{compared}
use Rattle.ygg_shape.proofs.ComparedKeeps.{compared_keeps}
use Rattle.ygg_shape.proofs.comparing.equal.Goals as goal

pub returns-clause-width : goal.returns-clause-width
returns-clause-width g c =
    compared_width (g.B.Book.kinds c.args.book.now) c.args.one.now c.args.two.now c.args.bank.now c.equal_by.new.bank c.equal_by.result
    c.equal_by.ensures.bank c.equal_by.ensures.grows
    c.equal_by.ensures.nodes c.equal_by.ensures.form c.requires

pub returns-clause-value : goal.returns-clause-value
returns-clause-value g c =
    compared_value (g.B.Book.kinds c.args.book.now) c.args.one.now c.args.two.now c.args.bank.now c.equal_by.new.bank c.equal_by.result
    c.equal_by.ensures.bank c.equal_by.ensures.grows
    c.equal_by.ensures.nodes c.equal_by.ensures.form c.requires

pub returns-clause-keeps : goal.returns-clause-keeps
returns-clause-keeps g c = keeps_values c.args.bank.now c.equal_by.new.bank c.equal_by.ensures.grows

pub returns-clause-inputs : goal.returns-clause-inputs
returns-clause-inputs g c =
    let kinds = g.B.Book.kinds c.args.book.now in
    kept c.args.bank.now c.equal_by.new.bank (compared kinds c.args.one.now c.args.two.now c.args.bank.now).nodes c.equal_by.result c.equal_by.ensures.nodes
    (λ next. compared_keeps kinds (InputsBelow next) (inputs_stay kinds next) c.args.one.now c.args.two.now c.args.bank.now)
