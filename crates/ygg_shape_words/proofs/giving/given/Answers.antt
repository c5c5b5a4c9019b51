use Rattle.ygg_bank.proofs.Exist.{keeps_values}
use Rattle.ygg_shape_words.proofs.GivenSteps.{given_value}
use Rattle.ygg_shape_words.proofs.giving.given.Goals as goal

pub returns-clause-value : goal.returns-clause-value
returns-clause-value g c =
    given_value (g.B.Book.kinds c.args.book.now) c.args.test c.args.value c.args.word c.args.bank.now c.given_by.new.bank c.given_by.result
    c.given_by.ensures.bank c.requires.word c.given_by.ensures.nodes c.given_by.ensures.form

pub returns-clause-keeps : goal.returns-clause-keeps
returns-clause-keeps g c = keeps_values c.args.bank.now c.given_by.new.bank c.given_by.ensures.grows
