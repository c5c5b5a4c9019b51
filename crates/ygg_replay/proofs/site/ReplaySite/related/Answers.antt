use Rattle.std.proofs.Common.{◌∙◌}
use Rattle.ygg_replay.proofs.Relating.{none_when, related_is}
use Rattle.ygg_replay.proofs.site.ReplaySite.related.Goals as goal

pub returns : goal.returns
returns c =
    none_when c.in_ok-place.place c.is_none.result c.is_none.ensures
    ∙ related_is c.args.self.now c.args.state.now c.args.memory.now c.args.low.now c.requires.fits c.in_ok-place.place c.in_ok-place.ensures
