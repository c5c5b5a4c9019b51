use Rattle.std.proofs.Common.{◌≡◌, ◌≤◌, ◌-◌, drop, length}
use Rattle.ygg_shape_sums.specs.Cancels.{has_product}
use Rattle.ygg_shape_sums.specs.Parts.{PartsAlike}
use Rattle.ygg_shape_sums.specs.declared.gathering.TheConstants.{READ_LIMIT}
use Rattle.ygg_shape_sums.proofs.cancelling.has_product.Given as goal

abbrev pub invariant-loop-place : goal.invariant-loop-place
invariant-loop-place l = record {
  went : has_product (READ_LIMIT - l.place) l.bank (drop l.place l.todo.items) ≡ has_product READ_LIMIT l.bank l.parts;
  alike : PartsAlike l.bank l.todo.items;
  within : l.place ≤ length l.todo.items;
}
