use Rattle.std.proofs.Common.{◌≡◌, ◌++◌, drop}
use Rattle.ygg_shape_sums.specs.Reduces.{products_of}
use Rattle.ygg_shape_sums.proofs.reducing.products_of.Given as goal

-- those that are made, and those still to come
abbrev pub invariant-loop-part : goal.invariant-loop-part
invariant-loop-part l = l.list.items ++ products_of (drop l.part-index l.parts) ≡ products_of l.parts
