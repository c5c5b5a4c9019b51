use Rattle.ygg_shape_words.specs.ygg_bank_proofs_Exist.{keeps_values}
use Rattle.ygg_shape_words.specs.ygg_bank.Inputs.{InputsBelow}
use Rattle.ygg_shape_words.proofs.Keeps.{inputs_stay, kept}
use Rattle.ygg_shape_sums.proofs.Equates.{equated_value}
use Rattle.ygg_shape_sums.proofs.Keeps.{equated_words_keeps}
use Rattle.ygg_shape_sums.specs.Equates.{equated_words}
use Rattle.ygg_shape_sums.proofs.equating.equate.Goals as goal

pub returns-clause-value : goal.returns-clause-value
returns-clause-value g c =
    equated_value (g.B.Book.kinds c.args.book.now) c.args.one c.args.two c.args.bank.now c.equate_by.new.bank c.equate_by.result
    c.equate_by.ensures.bank c.equate_by.ensures.nodes c.equate_by.ensures.form c.requires.words

pub returns-clause-keeps : goal.returns-clause-keeps
returns-clause-keeps g c = keeps_values c.args.bank.now c.equate_by.new.bank c.equate_by.ensures.grows

pub returns-clause-inputs : goal.returns-clause-inputs
returns-clause-inputs g c =
    let kinds = g.B.Book.kinds c.args.book.now in
    kept c.args.bank.now c.equate_by.new.bank (equated_words kinds c.args.one c.args.two c.args.bank.now).nodes c.equate_by.result
    c.equate_by.ensures.nodes (λ next. equated_words_keeps kinds (InputsBelow next) (inputs_stay kinds next) c.args.one c.args.two c.args.bank.now)
