use Rattle.ygg_run.proofs.Staging.{staged_starts, staged_runs}
use Rattle.ygg_run.proofs.staged.StagedScene.format.Goals as goal

pub returns-clause-starts : goal.returns-clause-starts
returns-clause-starts g c =
    staged_starts g.W.Viewed.seen g.met.W.Playable.playable c.args.typed.now.file c.self.inside.tower c.args.self.now c.format.new.tower c.self.view_is
    c.requires.fresh c.in_ok-format.ensures.looks c.args.power.now c.format.new.power c.requires.fuse c.in_ok-format.field-0 c.in_ok-format.ensures.ends

pub returns-clause-runs : goal.returns-clause-runs
returns-clause-runs g c =
    staged_runs g.W.Viewed.seen g.met.W.Playable.playable c.args.typed.now.file c.self.inside.tower c.args.self.now c.format.new.tower c.self.view_is
    c.requires.fresh c.in_ok-format.ensures.looks c.args.power.now c.format.new.power c.requires.fuse c.in_ok-format.field-0 c.in_ok-format.ensures.ends
    c.in_ok-format.ensures.runs
