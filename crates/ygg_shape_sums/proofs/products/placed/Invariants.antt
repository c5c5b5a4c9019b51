use Rattle.std.proofs.Common.{◌≡◌, ◌++◌, take, drop}
use Rattle.ygg_shape_sums.specs.Products.{placed}
use Rattle.ygg_shape_sums.proofs.products.placed.Given as goal

-- the factors before the place come before the one that is put in
abbrev pub invariant-loop-place : goal.invariant-loop-place
invariant-loop-place l = record {
  same : l.list.items ≡ l.factors;
  went : placed l.factor l.factors ≡ take l.place l.factors ++ placed l.factor (drop l.place l.factors);
}
