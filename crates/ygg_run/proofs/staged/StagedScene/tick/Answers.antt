use Rattle.ygg_machine.specs.Commands as command
use Rattle.ygg_run_play.specs.Named.{tick_name}
use Rattle.ygg_run_play.specs.Scene.{ticking}
use Rattle.ygg_run.proofs.Asked.{tick_there, tick_named, layer_there}
use Rattle.ygg_run.proofs.Played.{tick_is}
use Rattle.ygg_run.proofs.Staging.{height_inside, staged_unfailed, staged_ends, staged_after}
use Rattle.ygg_run.proofs.staged.StagedScene.tick.Goals as goal

pub tick-requires-clause-layer : goal.tick-requires-clause-layer
tick-requires-clause-layer g c =
    layer_there c.args.typed.now.file c.args.layer c.args.number c.requires.tick _
    (height_inside g.W.Viewed.seen g.met.W.Playable.playable c.args.typed.now.file c.self.inside.tower c.args.self.now c.self.inside.tower c.self.view_is
    c.requires.runs.on_disk)

pub tick-requires-clause-tick : goal.tick-requires-clause-tick
tick-requires-clause-tick g c = tick_there c.args.typed.now.file c.args.layer c.args.number c.requires.tick

pub outcome_of-requires : goal.outcome_of-requires
outcome_of-requires g c =
    staged_unfailed g.W.Viewed.seen g.met.W.Playable.playable c.args.typed.now.file c.self.inside.tower c.args.self.now c.tick.new.tower c.self.view_is
    (command.ticking (tick_name c.args.typed.now.file c.args.layer c.args.number)) (ticking (tick_name c.args.typed.now.file c.args.layer c.args.number))
    (λ v v' here looks. tick_is g.W.Viewed.seen.means g.met.W.Playable.playable c.args.typed.now.file v v' here looks _)
    c.requires.runs.on_disk c.in_ok-turn.ensures.looks c.args.power.now c.tick.new.power _
    (c.in_ok-turn.ensures.ends _ (tick_named c.args.typed.now.file c.args.layer c.args.number c.requires.tick))

pub returns-clause-ends : goal.returns-clause-ends
returns-clause-ends g c =
    staged_ends g.W.Viewed.seen g.met.W.Playable.playable c.args.typed.now.file c.self.inside.tower c.args.self.now c.tick.new.tower c.self.view_is
    (command.ticking (tick_name c.args.typed.now.file c.args.layer c.args.number)) (ticking (tick_name c.args.typed.now.file c.args.layer c.args.number))
    (λ v v' here looks. tick_is g.W.Viewed.seen.means g.met.W.Playable.playable c.args.typed.now.file v v' here looks _)
    c.requires.runs.on_disk c.in_ok-turn.ensures.looks c.args.power.now c.tick.new.power _
    (c.in_ok-turn.ensures.ends _ (tick_named c.args.typed.now.file c.args.layer c.args.number c.requires.tick))
    c.outcome_of.result c.outcome_of.ensures

pub returns-clause-after : goal.returns-clause-after
returns-clause-after g c =
    staged_after g.W.Viewed.seen g.met.W.Playable.playable c.args.typed.now.file c.self.inside.tower c.args.self.now c.tick.new.tower c.self.view_is
    (command.ticking (tick_name c.args.typed.now.file c.args.layer c.args.number)) (ticking (tick_name c.args.typed.now.file c.args.layer c.args.number))
    (λ v v' here looks. tick_is g.W.Viewed.seen.means g.met.W.Playable.playable c.args.typed.now.file v v' here looks _)
    c.requires.runs.on_disk c.in_ok-turn.ensures.looks c.args.power.now c.tick.new.power _
    (c.in_ok-turn.ensures.ends _ (tick_named c.args.typed.now.file c.args.layer c.args.number c.requires.tick))
    c.outcome_of.result c.outcome_of.ensures c.in_ok-turn.ensures.runs
