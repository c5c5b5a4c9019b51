use Rattle.ygg_bank.proofs.Widths.{stands}
use Rattle.ygg_shape_words.proofs.forms.against.Goals as goal

pub may_be-requires-clause-at : goal.may_be-requires-clause-at
may_be-requires-clause-at c = stands c.args.bank.now c.args.at c.args.word.width c.requires.at
