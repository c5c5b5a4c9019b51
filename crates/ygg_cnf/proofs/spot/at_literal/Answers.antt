use Rattle.std.proofs.Common.{refl}
use Rattle.ygg_cnf.proofs.Turning.{literal_minus, literal_zero, literal_digit, literal_other}
use Rattle.ygg_cnf.proofs.spot.at_literal.Goals as goal

pub returns-then-byte-eq45 : goal.returns-then-byte-eq45
returns-then-byte-eq45 c = rw c.if-byte-eq45.true literal_minus

pub returns-then-byte-eq48 : goal.returns-then-byte-eq48
returns-then-byte-eq48 c = rw c.if-byte-eq48.true literal_zero

pub returns-in-Some : goal.returns-in-Some
returns-in-Some c = let f = c.in-Some.ensures.some in literal_digit _ _ f.0 f.1 f.2

pub returns-in-None : goal.returns-in-None
returns-in-None c = literal_other _ c.if-byte-eq45.false c.if-byte-eq48.false (c.in-None.ensures.none refl)
