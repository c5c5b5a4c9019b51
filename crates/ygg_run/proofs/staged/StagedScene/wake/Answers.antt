use Rattle.ygg_machine.specs.Commands as command
use Rattle.ygg_run_play.specs.Scene.{waking}
use Rattle.ygg_run.proofs.Played.{wake_is}
use Rattle.ygg_run.proofs.Staging.{staged_unfailed, staged_ends, staged_after}
use Rattle.ygg_run.proofs.staged.StagedScene.wake.Goals as goal

pub outcome_of-requires : goal.outcome_of-requires
outcome_of-requires g c =
    staged_unfailed g.W.Viewed.seen g.met.W.Playable.playable c.args.typed.now.file c.self.inside.tower c.args.self.now c.wake.new.tower c.self.view_is
    command.waking waking (wake_is g.W.Viewed.seen.means g.met.W.Playable.playable c.args.typed.now.file)
    c.requires.stands.on_disk c.in_ok-turn.ensures.looks c.args.power.now c.wake.new.power _ c.in_ok-turn.ensures.ends

pub returns-clause-ends : goal.returns-clause-ends
returns-clause-ends g c =
    staged_ends g.W.Viewed.seen g.met.W.Playable.playable c.args.typed.now.file c.self.inside.tower c.args.self.now c.wake.new.tower c.self.view_is
    command.waking waking (wake_is g.W.Viewed.seen.means g.met.W.Playable.playable c.args.typed.now.file)
    c.requires.stands.on_disk c.in_ok-turn.ensures.looks c.args.power.now c.wake.new.power _ c.in_ok-turn.ensures.ends
    c.outcome_of.result c.outcome_of.ensures

pub returns-clause-after : goal.returns-clause-after
returns-clause-after g c =
    staged_after g.W.Viewed.seen g.met.W.Playable.playable c.args.typed.now.file c.self.inside.tower c.args.self.now c.wake.new.tower c.self.view_is
    command.waking waking (wake_is g.W.Viewed.seen.means g.met.W.Playable.playable c.args.typed.now.file)
    c.requires.stands.on_disk c.in_ok-turn.ensures.looks c.args.power.now c.wake.new.power _ c.in_ok-turn.ensures.ends
    c.outcome_of.result c.outcome_of.ensures c.in_ok-turn.ensures.runs
