use Rattle.std.proofs.Common.{arith}
use Rattle.ygg_chain.proofs.CountLemmas.{one_less, place_within}
use Rattle.ygg_chain.proofs.counting.remove.Goals as goal

pub overflow_sub-count : goal.overflow_sub-count
overflow_sub-count c =
    let within = place_within c.args.seen.now c.args.lit c.code-place.result c.requires.fits c.code-place.ensures in
    let less = one_less c.args.seen.now c.code-place.result within c.if-seen-place.true in
    omega (arith, less, c.requires.counted)

pub returns-then-seen-place-clause-counted : goal.returns-then-seen-place-clause-counted
returns-then-seen-place-clause-counted c =
    let within = place_within c.args.seen.now c.args.lit c.code-place.result c.requires.fits c.code-place.ensures in
    let less = one_less c.args.seen.now c.code-place.result within c.if-seen-place.true in
    omega (arith, less, c.requires.counted)
