use Rattle.ygg_cnf.proofs.Running.{some_of, space_turns, digit_turns}
use Rattle.ygg_cnf.proofs.numbers.byte_among.Goals as goal

pub returns-else-more-eq0 : goal.returns-else-more-eq0
returns-else-more-eq0 c =
    let f = c.in-Some.ensures.some in
    digit_turns c.args.number c.in-Some.more c.args.byte c.ranges.number.fits f.0 f.1 f.2 (some_of c.in-Some.more c.if-more-eq0.false) f.3

pub returns-then-number-gt0 : goal.returns-then-number-gt0
returns-then-number-gt0 c = space_turns c.args.number c.args.byte c.ranges.number.fits c.if-number-gt0.true c.if-byte-eq32.true
