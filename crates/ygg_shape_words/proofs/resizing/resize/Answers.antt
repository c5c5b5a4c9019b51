use Rattle.ygg_bank.proofs.Exist.{keeps_values}
use Rattle.ygg_shape_words.proofs.Sizes.{resized_value, resized_width}
use Rattle.ygg_shape_words.proofs.resizing.resize.Goals as goal

pub returns-clause-width : goal.returns-clause-width
returns-clause-width g c =
    resized_width (g.B.Book.kinds c.args.book.now) c.args.term c.args.width c.args.bank.now c.resize_by.new.bank c.resize_by.result
    c.resize_by.ensures.bank c.requires.term c.requires.width c.resize_by.ensures.nodes c.resize_by.ensures.form

pub returns-clause-value : goal.returns-clause-value
returns-clause-value g c =
    resized_value (g.B.Book.kinds c.args.book.now) c.args.term c.args.width c.args.bank.now c.resize_by.new.bank c.resize_by.result
    c.resize_by.ensures.bank c.requires.term c.requires.width c.resize_by.ensures.nodes c.resize_by.ensures.form

pub returns-clause-keeps : goal.returns-clause-keeps
returns-clause-keeps g c = keeps_values c.args.bank.now c.resize_by.new.bank c.resize_by.ensures.grows
