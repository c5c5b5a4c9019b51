use Rattle.std.proofs.Common.{◌<◌, ◌^◌, arith}
use Rattle.std.proofs.lemmas.Bool.Decides.{nat_tests}
use Rattle.ygg_type.proofs.Powers.{below_power}
use Rattle.ygg_type.proofs.limits.is_value.Goals as goal

pub returns-then-w-ge64 : goal.returns-then-w-ge64
returns-then-w-ge64 c =
    let fits : c.args.v < 2 ^ c.args.w = below_power _ _ c.ranges.v.fits c.if-w-ge64.true in
    grind (arith, nat_tests)
