use Rattle.ygg_bank.proofs.Exist.{keeps_values}
use Rattle.ygg_shape_words.proofs.Answered.{same_value}
use Rattle.ygg_shape_words.proofs.comparing.same.Goals as goal

pub returns-clause-value : goal.returns-clause-value
returns-clause-value g c =
    same_value (g.B.Book.kinds c.args.book.now) c.args.one c.args.two c.args.bank.now c.same_by.new.bank c.same_by.result
    c.same_by.ensures.bank c.same_by.ensures.nodes c.same_by.ensures.form
    c.requires.words

pub returns-clause-keeps : goal.returns-clause-keeps
returns-clause-keeps g c = keeps_values c.args.bank.now c.same_by.new.bank c.same_by.ensures.grows
