use Rattle.std.proofs.Common.{◌≡◌, drop}
use Rattle.ygg_shape_sums.specs.Parts.{empty}
use Rattle.ygg_shape_sums.specs.Reduces.{summed}
use Rattle.ygg_shape_sums.proofs.reducing.summed.Given as goal

-- the products still to come, added to the sum, give what all give
abbrev pub invariant-loop-product : goal.invariant-loop-product
invariant-loop-product l = summed l.width (drop l.product-index l.products) l.sum ≡ summed l.width l.products (empty l.number)
