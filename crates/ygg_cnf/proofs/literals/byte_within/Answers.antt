use Rattle.ygg_cnf.proofs.Running.{some_of, part_turns}
use Rattle.ygg_cnf.proofs.literals.byte_within.Goals as goal

pub returns-else-more-eq0 : goal.returns-else-more-eq0
returns-else-more-eq0 c =
    let f = c.in-Some.ensures.some in
    part_turns c.args.number c.in-Some.more c.args.byte c.args.negated c.ranges.number.fits f.0 f.1 f.2 (some_of c.in-Some.more c.if-more-eq0.false) f.3
