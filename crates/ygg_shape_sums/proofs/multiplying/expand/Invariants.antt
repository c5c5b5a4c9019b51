use Rattle.std.proofs.Common.{◌≡◌, ◌≤◌, ◌-◌, [], drop, length}
use Rattle.ygg_shape_sums.specs.Multiplies.{expanded}
use Rattle.ygg_shape_sums.specs.Products.{ProductsAlike}
use Rattle.ygg_shape_sums.specs.declared.multiplying.TheConstants.{MULTIPLY_LIMIT}
use Rattle.ygg_shape_sums.proofs.multiplying.expand.Given as goal

abbrev pub invariant-loop-place : goal.invariant-loop-place
invariant-loop-place l = record {
  went : expanded (MULTIPLY_LIMIT - l.place) l.bank l.facts (drop l.place l.todo.items) l.sum.items
      ≡ expanded MULTIPLY_LIMIT l.bank l.facts l.fn.start.items [];
  alike : ProductsAlike l.bank l.todo.items;
  within : l.place ≤ length l.todo.items;
}
