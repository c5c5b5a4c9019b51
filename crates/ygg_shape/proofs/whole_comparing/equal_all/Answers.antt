use Rattle.ygg_shape_cells.specs.ygg_bank_proofs_Exist.{keeps_values}
use Rattle.ygg_shape_cells.specs.ygg_bank.Inputs.{InputsBelow}
use Rattle.ygg_shape_cells.specs.ygg_shape_words_proofs_Keeps.{inputs_stay, kept}
use Rattle.ygg_shape.proofs.Listed.{all_compared_keeps, all_compared_value, all_compared_width}
use Rattle.ygg_shape.specs.Comparing.{all_compared}
use Rattle.ygg_shape.proofs.whole_comparing.equal_all.Goals as goal

pub returns-clause-width : goal.returns-clause-width
returns-clause-width g c =
    all_compared_width (g.B.Book.kinds c.args.book.now) c.args.ones.now c.args.twos.now c.args.bank.now c.equal_all_by.new.bank c.equal_all_by.result
    c.equal_all_by.ensures.bank c.equal_all_by.ensures.nodes c.equal_all_by.ensures.form c.requires

pub returns-clause-value : goal.returns-clause-value
returns-clause-value g c =
    all_compared_value (g.B.Book.kinds c.args.book.now) c.args.ones.now c.args.twos.now c.args.bank.now c.equal_all_by.new.bank c.equal_all_by.result
    c.equal_all_by.ensures.bank c.equal_all_by.ensures.nodes c.equal_all_by.ensures.form c.requires

pub returns-clause-keeps : goal.returns-clause-keeps
returns-clause-keeps g c = keeps_values c.args.bank.now c.equal_all_by.new.bank c.equal_all_by.ensures.grows

pub returns-clause-inputs : goal.returns-clause-inputs
returns-clause-inputs g c =
    let kinds = g.B.Book.kinds c.args.book.now in
    kept c.args.bank.now c.equal_all_by.new.bank (all_compared kinds c.args.ones.now c.args.twos.now c.args.bank.now).nodes c.equal_all_by.result
    c.equal_all_by.ensures.nodes
    (λ next. all_compared_keeps kinds (InputsBelow next) (inputs_stay kinds next) c.args.ones.now c.args.twos.now c.args.bank.now)
