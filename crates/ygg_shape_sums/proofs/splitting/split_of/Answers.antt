use Rattle.ygg_shape_sums.proofs.Splits.{parts_alike}
use Rattle.ygg_shape_sums.proofs.splitting.split_of.Goals as goal

pub is_rich-requires-clause-parts : goal.is_rich-requires-clause-parts
is_rich-requires-clause-parts c = parts_alike c.args.bank.now c.args.width c.args.parts.now c.requires.parts

pub parts_test-requires-clause-parts : goal.parts_test-requires-clause-parts
parts_test-requires-clause-parts c = parts_alike c.args.bank.now c.args.width c.args.parts.now c.requires.parts
