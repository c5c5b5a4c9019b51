use Rattle.ygg_machine.specs.Commands as command
use Rattle.ygg_run_play.specs.Named.{operation_name}
use Rattle.ygg_run_play.specs.Scene.{calling}
use Rattle.ygg_run.proofs.Asked.{callable, signature_there}
use Rattle.ygg_run.proofs.Played.{call_is}
use Rattle.ygg_run.proofs.Staging.{height_inside, staged_unfailed, staged_ends, staged_after}
use Rattle.ygg_run.proofs.staged.StagedScene.call.Goals as goal

pub call-requires-clause-operation : goal.call-requires-clause-operation
call-requires-clause-operation g c =
    callable c.args.typed.now.file _
    (height_inside g.W.Viewed.seen g.met.W.Playable.playable c.args.typed.now.file c.self.inside.tower c.args.self.now c.self.inside.tower c.self.view_is
    c.requires.runs.on_disk) c.args.op c.args.args.now c.requires.operation

pub outcome_of-requires : goal.outcome_of-requires
outcome_of-requires g c =
    staged_unfailed g.W.Viewed.seen g.met.W.Playable.playable c.args.typed.now.file c.self.inside.tower c.args.self.now c.call.new.tower c.self.view_is
    (command.calling (operation_name c.args.typed.now.file c.args.op) c.args.args.now)
    (calling (operation_name c.args.typed.now.file c.args.op) c.args.args.now)
    (λ v v' here looks. call_is g.W.Viewed.seen.means g.met.W.Playable.playable c.args.typed.now.file v v' here looks _ c.args.args.now)
    c.requires.runs.on_disk c.in_ok-turn.ensures.looks c.args.power.now c.call.new.power _
    (c.in_ok-turn.ensures.ends _ _ (signature_there c.args.typed.now.file _
    (height_inside g.W.Viewed.seen g.met.W.Playable.playable c.args.typed.now.file c.self.inside.tower c.args.self.now c.self.inside.tower c.self.view_is
    c.requires.runs.on_disk) c.args.op c.args.args.now c.requires.operation))

pub returns-clause-ends : goal.returns-clause-ends
returns-clause-ends g c =
    staged_ends g.W.Viewed.seen g.met.W.Playable.playable c.args.typed.now.file c.self.inside.tower c.args.self.now c.call.new.tower c.self.view_is
    (command.calling (operation_name c.args.typed.now.file c.args.op) c.args.args.now)
    (calling (operation_name c.args.typed.now.file c.args.op) c.args.args.now)
    (λ v v' here looks. call_is g.W.Viewed.seen.means g.met.W.Playable.playable c.args.typed.now.file v v' here looks _ c.args.args.now)
    c.requires.runs.on_disk c.in_ok-turn.ensures.looks c.args.power.now c.call.new.power _
    (c.in_ok-turn.ensures.ends _ _ (signature_there c.args.typed.now.file _
    (height_inside g.W.Viewed.seen g.met.W.Playable.playable c.args.typed.now.file c.self.inside.tower c.args.self.now c.self.inside.tower c.self.view_is
    c.requires.runs.on_disk) c.args.op c.args.args.now c.requires.operation))
    c.outcome_of.result c.outcome_of.ensures

pub returns-clause-after : goal.returns-clause-after
returns-clause-after g c =
    staged_after g.W.Viewed.seen g.met.W.Playable.playable c.args.typed.now.file c.self.inside.tower c.args.self.now c.call.new.tower c.self.view_is
    (command.calling (operation_name c.args.typed.now.file c.args.op) c.args.args.now)
    (calling (operation_name c.args.typed.now.file c.args.op) c.args.args.now)
    (λ v v' here looks. call_is g.W.Viewed.seen.means g.met.W.Playable.playable c.args.typed.now.file v v' here looks _ c.args.args.now)
    c.requires.runs.on_disk c.in_ok-turn.ensures.looks c.args.power.now c.call.new.power _
    (c.in_ok-turn.ensures.ends _ _ (signature_there c.args.typed.now.file _
    (height_inside g.W.Viewed.seen g.met.W.Playable.playable c.args.typed.now.file c.self.inside.tower c.args.self.now c.self.inside.tower c.self.view_is
    c.requires.runs.on_disk) c.args.op c.args.args.now c.requires.operation))
    c.outcome_of.result c.outcome_of.ensures c.in_ok-turn.ensures.runs
