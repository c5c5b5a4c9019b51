use Rattle.std.proofs.Common.{◌≡◌, ◌++◌, take, drop}
use Rattle.ygg_shape_sums.specs.Products.{with_product}
use Rattle.ygg_shape_sums.proofs.products.count_among.Given as goal

-- the products before the place have other factors
abbrev pub invariant-loop-place : goal.invariant-loop-place
invariant-loop-place l = record {
  same : l.sum.items ≡ l.initial.sum.items;
  went : with_product l.product l.sum.items ≡ take l.place l.sum.items ++ with_product l.product (drop l.place l.sum.items);
}
