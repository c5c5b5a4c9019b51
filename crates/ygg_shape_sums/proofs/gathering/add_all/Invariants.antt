use Rattle.std.proofs.Common.{◌≡◌, drop}
use Rattle.ygg_shape_sums.specs.Gathers.{with_all}
use Rattle.ygg_shape_sums.proofs.gathering.add_all.Given as goal

-- the parts still to come make of the sum so far what all parts make
abbrev pub invariant-loop-part : goal.invariant-loop-part
invariant-loop-part l = with_all (drop l.part-index l.parts) l.sum ≡ with_all l.parts l.initial.sum
