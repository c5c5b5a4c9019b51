use Rattle.std.proofs.Common.{◌≡◌, drop}
use Rattle.ygg_shape_sums.specs.Splits.{all_several_test}
use Rattle.ygg_shape_sums.proofs.splitting.all_several_test.Given as goal

-- the products still to come give what all products give
abbrev pub invariant-loop-product : goal.invariant-loop-product
invariant-loop-product l = all_several_test l.bank l.width (drop l.product-index l.products) ≡ all_several_test l.bank l.width l.products
