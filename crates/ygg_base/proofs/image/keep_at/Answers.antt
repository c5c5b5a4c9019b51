use Rattle.ygg_base.proofs.Turns.{flushed}
use Rattle.ygg_base.proofs.image.keep_at.Goals as goal

pub returns : goal.returns
returns c =
    flushed c.args.stored.now.items c.args.p c.index_mut.result.now c.keep.new.image c.requires.even c.requires.placed c.index_mut.ensures.value
    c.keep.ensures.named c.keep.ensures.view c.keep.ensures.stable
