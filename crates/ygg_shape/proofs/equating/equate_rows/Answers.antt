use Rattle.ygg_shape_sums.specs.ygg_bank_proofs_Exist.{keeps_values}
use Rattle.ygg_shape_sums.specs.ygg_bank.Inputs.{InputsBelow}
use Rattle.ygg_shape_sums.specs.ygg_shape_words_proofs_Keeps.{inputs_stay, kept}
use Rattle.ygg_shape.proofs.Equates.{equated_value}
use Rattle.ygg_shape.proofs.EquateKeeps.{equated_rows_keeps}
use Rattle.ygg_shape.specs.Equates.{equated_rows}
use Rattle.ygg_shape.proofs.equating.equate_rows.Goals as goal

pub returns-clause-value : goal.returns-clause-value
returns-clause-value g c =
    equated_value (g.B.Book.kinds c.args.book.now) c.args.one.now c.args.two.now c.args.bank.now c.equate_rows_by.new.bank c.equate_rows_by.result
    c.equate_rows_by.ensures.bank c.equate_rows_by.ensures.nodes c.equate_rows_by.ensures.form c.requires.rows

pub returns-clause-keeps : goal.returns-clause-keeps
returns-clause-keeps g c = keeps_values c.args.bank.now c.equate_rows_by.new.bank c.equate_rows_by.ensures.grows

pub returns-clause-inputs : goal.returns-clause-inputs
returns-clause-inputs g c =
    let kinds = g.B.Book.kinds c.args.book.now in
    kept c.args.bank.now c.equate_rows_by.new.bank (equated_rows kinds c.args.one.now c.args.two.now c.args.bank.now).nodes c.equate_rows_by.result
    c.equate_rows_by.ensures.nodes
    (λ next. equated_rows_keeps kinds (InputsBelow next) (inputs_stay kinds next) c.args.one.now c.args.two.now c.args.bank.now)
