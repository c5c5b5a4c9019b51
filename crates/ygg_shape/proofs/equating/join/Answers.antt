use Rattle.ygg_shape_sums.specs.ygg_bank_proofs_Widths.{wider, extends_both}
use Rattle.ygg_shape.proofs.equating.join.Goals as goal

pub both-requires-clause-one : goal.both-requires-clause-one
both-requires-clause-one g c = wider c.args.bank.now c.equate.new.bank c.args.so_far 1 c.equate.ensures.grows c.requires.so_far

pub returns-clause-grows : goal.returns-clause-grows
returns-clause-grows g c = extends_both c.args.bank.now c.equate.new.bank c.both.new.bank c.equate.ensures.grows c.both.ensures.grows
