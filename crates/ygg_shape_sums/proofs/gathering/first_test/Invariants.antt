use Rattle.std.proofs.Common.{◌≡◌, drop}
use Rattle.ygg_shape_sums.specs.Gathers.{first_test}
use Rattle.ygg_shape_sums.proofs.gathering.first_test.Given as goal

-- the parts still to come give what all parts give
abbrev pub invariant-loop-part : goal.invariant-loop-part
invariant-loop-part l = first_test l.bank (drop l.part-index l.parts) ≡ first_test l.bank l.parts
