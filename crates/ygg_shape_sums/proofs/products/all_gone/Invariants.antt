use Rattle.std.proofs.Common.{◌≡◌, drop}
use Rattle.ygg_shape_sums.specs.Products.{all_gone}
use Rattle.ygg_shape_sums.proofs.products.all_gone.Given as goal

-- the products still to come give what all products give
abbrev pub invariant-loop-product : goal.invariant-loop-product
invariant-loop-product l = all_gone l.width (drop l.product-index l.products) ≡ all_gone l.width l.products
