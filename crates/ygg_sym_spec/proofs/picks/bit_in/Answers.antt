use Rattle.std.proofs.Common.{false, refl, slice_index_or}
use Rattle.ygg_sym_spec.proofs.Bits.{bit_past, bit_there}
use Rattle.ygg_sym_spec.proofs.picks.bit_in.Goals as goal

pub returns-then-place-given : goal.returns-then-place-given
returns-then-place-given c =
    bit_there c.args.place c.args.given.now (slice_index_or c.args.given.now c.args.place false) false c.if-place-given.true refl

pub returns-else-place-given : goal.returns-else-place-given
returns-else-place-given c = bit_past c.args.place c.args.given.now c.if-place-given.false
