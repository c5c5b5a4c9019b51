use Rattle.std.proofs.Common.{◌<◌, length, subst}
use Rattle.ygg_base.proofs.Losing.{more_lost}
use Rattle.ygg_base.proofs.image.restore_all.Goals as goal

pub loop-place-preserved : goal.loop-place-preserved
loop-place-preserved c =
    more_lost c.args.stored.now.items c.loop-place.stored.items c.loop-place.place c.index_mut.result.now c.restore.new.image c.loop-place.invariant.0
    c.loop-place.invariant.1 (subst (λ items. c.loop-place.place < length items) c.as_slice-place-end.ensures.value c.loop-place-test.true)
    c.index_mut.ensures.value c.restore.ensures.named c.restore.ensures.view c.restore.ensures.stable
