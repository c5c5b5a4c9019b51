use Rattle.ygg_run.specs.ygg_eval.Lower.{ending_of}
use Rattle.ygg_run.specs.ygg_machine.Commands as command
use Rattle.ygg_run.specs.ygg_machine.Viewed.{floor_seen}
use Rattle.ygg_run.specs.ygg_run_play.Named.{operation_name}
use Rattle.ygg_run.proofs.Asked.{callable, signature_there}
use Rattle.ygg_run_commands.proofs.Done.{never_down, called}
use Rattle.ygg_run_commands.proofs.doing.call.Goals as goal

pub call-requires-clause-operation : goal.call-requires-clause-operation
call-requires-clause-operation g c = callable c.args.typed.now.file _ c.requires.runs.all c.args.op c.args.args.now c.requires.fits

pub given-requires : goal.given-requires
given-requires g c =
    never_down g.W.Viewed.seen.means c.args.typed.now.file ((floor_seen g.W.Viewed.seen).look c.args.tower.now)
    ((floor_seen g.W.Viewed.seen).look c.call.new.tower) c.requires.runs.all c.call.ensures.looks c.steady-power.result c.call.new.power
    c.steady-power.ensures (command.calling (operation_name c.args.typed.now.file c.args.op) c.args.args.now) (ending_of c.call.result)
    (c.call.ensures.ends _ _ (signature_there c.args.typed.now.file _ c.requires.runs.all c.args.op c.args.args.now c.requires.fits))

pub returns : goal.returns
returns g c =
    called g.W.Viewed.seen.means c.args.typed.now.file ((floor_seen g.W.Viewed.seen).look c.args.tower.now)
    ((floor_seen g.W.Viewed.seen).look c.call.new.tower) c.requires.runs.all c.call.ensures.looks c.steady-power.result c.call.new.power
    c.steady-power.ensures c.args.op c.args.args.now (ending_of c.call.result) c.given.result c.given.ensures
    (c.call.ensures.ends _ _ (signature_there c.args.typed.now.file _ c.requires.runs.all c.args.op c.args.args.now c.requires.fits)) c.call.ensures.runs
