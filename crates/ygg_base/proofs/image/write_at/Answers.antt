use Rattle.ygg_base.proofs.Turns.{written}
use Rattle.ygg_base.proofs.image.write_at.Goals as goal

pub returns : goal.returns
returns c =
    written c.args.stored.now.items c.args.p c.index_mut.result.now c.put.new.image c.requires.even c.requires.placed c.index_mut.ensures.value
    c.put.ensures.named c.args.block c.start_of-start.result c.args.from.now c.requires.block c.requires.size c.start_of-start.ensures c.args.reaches
    c.put.ensures.view c.put.ensures.stable
