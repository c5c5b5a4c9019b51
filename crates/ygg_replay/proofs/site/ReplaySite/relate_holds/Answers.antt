use Rattle.ygg_replay.proofs.Asked.{if_ok, relate_asked, relate_holds}
use Rattle.ygg_replay.proofs.site.ReplaySite.relate_holds.Goals as goal

pub holds-requires : goal.holds-requires
holds-requires c =
    relate_asked c.args.self.now c.requires.here c.args.state.now c.args.memory.now c.args.low.now c.requires.fits

pub returns : goal.returns
returns c =
    if_ok _ _ c.holds.result c.holds.ensures
    (relate_holds c.args.self.now c.requires.here c.args.state.now c.args.memory.now c.args.low.now)
