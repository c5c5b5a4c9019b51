use Rattle.std.proofs.Common.{◌-◌, length, refl}
use Rattle.ygg_sym_spec.proofs.Bits.{left_none, left_taken}
use Rattle.ygg_sym_spec.proofs.picks.from.Goals as goal

pub returns-then-count-given : goal.returns-then-count-given
returns-then-count-given c = left_taken c.args.count (length c.args.given.now - c.args.count) c.args.given.now refl

pub returns-else-count-given : goal.returns-else-count-given
returns-else-count-given c = left_none c.args.count c.args.given.now c.if-count-given.false
