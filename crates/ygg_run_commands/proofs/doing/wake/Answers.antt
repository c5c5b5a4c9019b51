use Rattle.ygg_run.specs.ygg_eval.Lower.{ending_of}
use Rattle.ygg_run.specs.ygg_machine.Commands as command
use Rattle.ygg_run.specs.ygg_machine.Viewed.{floor_seen}
use Rattle.ygg_run_commands.proofs.Done.{never_down, woke, unwoken}
use Rattle.ygg_run_commands.proofs.doing.wake.Goals as goal

pub given-requires : goal.given-requires
given-requires g c =
    never_down g.W.Viewed.seen.means c.args.typed.now.file ((floor_seen g.W.Viewed.seen).look c.args.tower.now)
    ((floor_seen g.W.Viewed.seen).look c.wake.new.tower) c.requires.all c.wake.ensures.looks c.steady-power.result c.wake.new.power c.steady-power.ensures
    command.waking (ending_of c.wake.result) c.wake.ensures.ends

pub returns-in_err-given : goal.returns-in_err-given
returns-in_err-given g c =
    unwoken g.W.Viewed.seen.means c.args.typed.now.file ((floor_seen g.W.Viewed.seen).look c.args.tower.now)
    ((floor_seen g.W.Viewed.seen).look c.wake.new.tower) c.requires.all c.wake.ensures.looks c.steady-power.result c.wake.new.power c.steady-power.ensures
    (ending_of c.wake.result) c.in_err-given.field-0.0 c.from_residual.result c.in_err-given.ensures c.from_residual.ensures.1 c.wake.ensures.ends

pub returns : goal.returns
returns g c =
    woke g.W.Viewed.seen.means c.args.typed.now.file ((floor_seen g.W.Viewed.seen).look c.args.tower.now)
    ((floor_seen g.W.Viewed.seen).look c.wake.new.tower) c.requires.all c.wake.ensures.looks c.steady-power.result c.wake.new.power c.steady-power.ensures
    (ending_of c.wake.result) _ c.in_ok-given.ensures c.wake.ensures.ends c.wake.ensures.runs
