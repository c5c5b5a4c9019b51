use Rattle.std.proofs.Common.{◌≡◌, drop}
use Rattle.ygg_shape_sums.specs.Products.{factor_test}
use Rattle.ygg_shape_sums.proofs.products.factor_test.Given as goal

-- the factors still to come give what all factors give
abbrev pub invariant-loop-factor : goal.invariant-loop-factor
invariant-loop-factor l = factor_test l.bank (drop l.factor-index l.factors) ≡ factor_test l.bank l.factors
