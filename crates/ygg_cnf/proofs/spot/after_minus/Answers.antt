use Rattle.std.proofs.Common.{refl}
use Rattle.ygg_cnf.proofs.Turning.{minus_digit, minus_other}
use Rattle.ygg_cnf.proofs.spot.after_minus.Goals as goal

pub returns-in-Some : goal.returns-in-Some
returns-in-Some c = let f = c.in-Some.ensures.some in minus_digit _ _ f.0 f.1 f.2

pub returns-in-None : goal.returns-in-None
returns-in-None c = minus_other _ (c.in-None.ensures.none refl)
