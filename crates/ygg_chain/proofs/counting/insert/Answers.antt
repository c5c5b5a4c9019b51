use Rattle.std.proofs.Common.{◌+◌, true, set, sym, ◌∙◌, ap, ℕ, arith, length-set}
use Rattle.ygg_chain.proofs.CountLemmas.{one_more, trues_within, place_within}
use Rattle.ygg_chain.proofs.counting.insert.Goals as goal

pub overflow_add-count : goal.overflow_add-count
overflow_add-count c =
    let within = place_within c.args.seen.now c.args.lit c.code-place.result c.requires.fits c.code-place.ensures in
    let more = one_more c.args.seen.now c.code-place.result within c.if-not-seen-place.true in
    let all = trues_within (set c.args.seen.now c.code-place.result true) in
    let same = length-set c.args.seen.now c.code-place.result true in
    omega (arith, more, all, same, c.requires.counted)

pub returns-then-not-seen-place-clause-counted : goal.returns-then-not-seen-place-clause-counted
returns-then-not-seen-place-clause-counted c =
    let within = place_within c.args.seen.now c.args.lit c.code-place.result c.requires.fits c.code-place.ensures in
    ap (λ (n : ℕ). n + 1) c.requires.counted ∙ sym (one_more c.args.seen.now c.code-place.result within c.if-not-seen-place.true)
