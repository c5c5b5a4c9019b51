use Rattle.ygg_cnf.proofs.Running.{part_ends, part_minus}
use Rattle.ygg_cnf.proofs.literals.sign_within.Goals as goal

pub returns-then-number-gt0 : goal.returns-then-number-gt0
returns-then-number-gt0 c = part_ends c.args.number c.args.byte c.args.negated c.ranges.number.fits c.if-number-gt0.true c.if-byte-eq32.true

pub returns-then-not-negated : goal.returns-then-not-negated
returns-then-not-negated c = part_minus c.args.number c.args.byte c.args.negated c.if-number-eq0.true c.if-not-negated.true c.if-byte-eq45.true
