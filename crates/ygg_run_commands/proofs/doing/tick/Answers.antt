use Rattle.ygg_run.specs.ygg_eval.Lower.{ending_of}
use Rattle.ygg_run.specs.ygg_machine.Commands as command
use Rattle.ygg_run.specs.ygg_machine.Viewed.{floor_seen}
use Rattle.ygg_run.specs.ygg_run_play.Named.{tick_name}
use Rattle.ygg_run.proofs.Asked.{tick_there, tick_named, layer_there}
use Rattle.ygg_run_commands.proofs.Done.{never_down, ticked}
use Rattle.ygg_run_commands.proofs.doing.tick.Goals as goal

pub tick-requires-clause-layer : goal.tick-requires-clause-layer
tick-requires-clause-layer g c = layer_there c.args.typed.now.file c.args.layer c.args.number c.requires.fits _ c.requires.runs.all

pub tick-requires-clause-tick : goal.tick-requires-clause-tick
tick-requires-clause-tick g c = tick_there c.args.typed.now.file c.args.layer c.args.number c.requires.fits

pub given-requires : goal.given-requires
given-requires g c =
    never_down g.W.Viewed.seen.means c.args.typed.now.file ((floor_seen g.W.Viewed.seen).look c.args.tower.now)
    ((floor_seen g.W.Viewed.seen).look c.tick.new.tower) c.requires.runs.all c.tick.ensures.looks c.steady-power.result c.tick.new.power
    c.steady-power.ensures (command.ticking (tick_name c.args.typed.now.file c.args.layer c.args.number)) (ending_of c.tick.result)
    (c.tick.ensures.ends _ (tick_named c.args.typed.now.file c.args.layer c.args.number c.requires.fits))

pub returns : goal.returns
returns g c =
    ticked g.W.Viewed.seen.means c.args.typed.now.file ((floor_seen g.W.Viewed.seen).look c.args.tower.now)
    ((floor_seen g.W.Viewed.seen).look c.tick.new.tower) c.requires.runs.all c.tick.ensures.looks c.steady-power.result c.tick.new.power
    c.steady-power.ensures c.args.layer c.args.number (ending_of c.tick.result) c.given.result c.given.ensures
    (c.tick.ensures.ends _ (tick_named c.args.typed.now.file c.args.layer c.args.number c.requires.fits)) c.tick.ensures.runs
