use Rattle.ygg_bank.proofs.Exist.{keeps_values}
use Rattle.ygg_shape_words.proofs.Answered.{pick_value}
use Rattle.ygg_shape_words.proofs.picking.pick.Goals as goal

pub returns-clause-value : goal.returns-clause-value
returns-clause-value g c =
    pick_value (g.B.Book.kinds c.args.book.now) c.args.test c.args.yes c.args.no c.args.bank.now c.pick_by.new.bank c.pick_by.result
    c.pick_by.ensures.bank c.pick_by.ensures.nodes c.pick_by.ensures.form c.requires.pick

pub returns-clause-keeps : goal.returns-clause-keeps
returns-clause-keeps g c = keeps_values c.args.bank.now c.pick_by.new.bank c.pick_by.ensures.grows
