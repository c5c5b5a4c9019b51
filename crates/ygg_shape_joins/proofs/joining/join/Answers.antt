use Rattle.ygg_shape_words.specs.ygg_bank_proofs_Exist.{keeps_values}
use Rattle.ygg_shape_joins.proofs.JoinedAnswers.{joined_shape, joined_value}
use Rattle.ygg_shape_words.proofs.Keeps.{inputs_stay, kept}
use Rattle.ygg_shape_words.specs.ygg_bank.Inputs.{InputsBelow}
use Rattle.ygg_shape_joins.specs.Joining.{joined}
use Rattle.ygg_shape_joins.proofs.Joins.{joined_keeps}
use Rattle.ygg_shape_joins.proofs.joining.join.Goals as goal

pub returns-clause-shape : goal.returns-clause-shape
returns-clause-shape g c s p q =
    joined_shape (g.B.Book.kinds c.args.book.now) s c.args.test c.args.yes.now c.args.no.now c.args.bank.now c.join_by.new.bank c.join_by.result
    c.join_by.ensures.bank c.join_by.ensures.grows
    c.requires.test c.join_by.ensures.nodes c.join_by.ensures.form p q

pub returns-clause-value : goal.returns-clause-value
returns-clause-value g c =
    joined_value (g.B.Book.kinds c.args.book.now) c.args.test c.args.yes.now c.args.no.now c.args.bank.now c.join_by.new.bank c.join_by.result
    c.join_by.ensures.bank c.join_by.ensures.grows
    c.requires.test c.join_by.ensures.nodes c.join_by.ensures.form c.requires.values

pub returns-clause-keeps : goal.returns-clause-keeps
returns-clause-keeps g c = keeps_values c.args.bank.now c.join_by.new.bank c.join_by.ensures.grows

pub returns-clause-inputs : goal.returns-clause-inputs
returns-clause-inputs g c =
    let kinds = g.B.Book.kinds c.args.book.now in
    kept c.args.bank.now c.join_by.new.bank (joined kinds c.args.test c.args.yes.now c.args.no.now c.args.bank.now).nodes c.join_by.result
    c.join_by.ensures.nodes
    (λ next. joined_keeps kinds (InputsBelow next) (inputs_stay kinds next) c.args.test c.args.yes.now c.args.no.now c.args.bank.now)
