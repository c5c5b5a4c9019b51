use Rattle.std.proofs.Common.{refl}
use Rattle.ygg_cnf.proofs.Turning.{number_zero, number_digit, number_other}
use Rattle.ygg_cnf.proofs.spot.at_number.Goals as goal

pub returns-then-byte-eq48 : goal.returns-then-byte-eq48
returns-then-byte-eq48 c = rw c.if-byte-eq48.true number_zero

pub returns-in-Some : goal.returns-in-Some
returns-in-Some c = let f = c.in-Some.ensures.some in number_digit _ _ f.0 f.1 f.2

pub returns-in-None : goal.returns-in-None
returns-in-None c = number_other _ c.if-byte-eq48.false (c.in-None.ensures.none refl)
