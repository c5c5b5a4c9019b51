use Rattle.std.proofs.Common.{◌≡◌, drop}
use Rattle.ygg_shape_sums.specs.Reduces.{any_product}
use Rattle.ygg_shape_sums.proofs.reducing.any_product.Given as goal

-- the parts still to come give what all parts give
abbrev pub invariant-loop-part : goal.invariant-loop-part
invariant-loop-part l = any_product l.bank (drop l.part-index l.parts) ≡ any_product l.bank l.parts
