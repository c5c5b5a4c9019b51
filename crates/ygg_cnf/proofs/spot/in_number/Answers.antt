use Rattle.std.proofs.Common.{refl}
use Rattle.ygg_cnf.proofs.Turning.{digits_space, digits_digit, digits_other}
use Rattle.ygg_cnf.proofs.spot.in_number.Goals as goal

pub returns-then-byte-eq32 : goal.returns-then-byte-eq32
returns-then-byte-eq32 c some = rw c.if-byte-eq32.true (digits_space c.args.number (some, c.ranges.number.fits))

pub returns-in-Some : goal.returns-in-Some
returns-in-Some c some =
    let f = c.in-Some.ensures.some in digits_digit c.args.number _ c.args.byte (some, c.ranges.number.fits) f.0 f.1 f.2 f.3

pub returns-in-None : goal.returns-in-None
returns-in-None c some = digits_other c.args.number c.args.byte (some, c.ranges.number.fits) c.if-byte-eq32.false (c.in-None.ensures.none refl)
