use Rattle.std.proofs.Common.{◌≡◌, drop}
use Rattle.ygg_shape_sums.specs.Splits.{firm_test}
use Rattle.ygg_shape_sums.proofs.splitting.firm_test.Given as goal

-- the parts still to come give what all parts give
abbrev pub invariant-loop-part : goal.invariant-loop-part
invariant-loop-part l = firm_test l.bank (drop l.part-index l.parts) ≡ firm_test l.bank l.parts
