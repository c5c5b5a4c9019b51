use Rattle.ygg_shape_sums.proofs.Fit.{part_stands}
use Rattle.ygg_shape_sums.proofs.reducing.any_product.Goals as goal

pub is_product_at-requires-clause-part : goal.is_product_at-requires-clause-part
is_product_at-requires-clause-part c = part_stands c.args.bank.now c.args.parts.now c.loop-part.part-index _ c.requires.parts c.loop-part-test.true
