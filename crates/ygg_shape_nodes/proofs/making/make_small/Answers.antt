use Rattle.ygg_shape_words.specs.ygg_bank_proofs_Exist.{keeps_values}
use Rattle.ygg_shape_nodes.proofs.Made.{small_value}
use Rattle.ygg_shape_nodes.proofs.making.make_small.Goals as goal

pub returns-clause-value : goal.returns-clause-value
returns-clause-value g c =
    small_value (g.B.Book.kinds c.args.book.now) c.args.node c.args.bank.now c.made_within.new.bank c.made_within.result c.len.ensures.bank
    c.made_within.ensures.bank c.requires.can c.made_within.ensures.made

pub returns-clause-keeps : goal.returns-clause-keeps
returns-clause-keeps g c = keeps_values c.args.bank.now c.made_within.new.bank c.made_within.ensures.grows
