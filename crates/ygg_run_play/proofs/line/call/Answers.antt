use Rattle.ygg_run_play.specs.ygg_script.declared.command.Command.TheVariants.{Call}
use Rattle.ygg_run_play.specs.Named.{operation_name}
use Rattle.ygg_run_play.specs.Scene.{calling}
use Rattle.ygg_run_play.specs.Doing.{command_end}
use Rattle.ygg_run_play.proofs.Lines.{call_line, call_cut, line_done, line_halted}
use Rattle.ygg_run_play.proofs.line.call.Goals as goal

pub returns-in_err-outcome-2 : goal.returns-in_err-outcome-2
returns-in_err-outcome-2 g c =
    let f = c.args.typed.now.file in
    let M = g.S.Scene.machine f in
    let from = g.S.Scene.state f c.args.scene.now in
    let deed = calling (operation_name f c.args.op) c.args.args.now in
    line_halted M f (Call c.args.op c.args.args.now) deed command_end (call_line f c.args.op c.args.args.now) c.args.line c.args.power.now c.call.new.power from
    (g.S.Scene.state f c.counted.new.scene) (g.S.Scene.runs f c.counted.new.scene) (g.S.Scene.stands f c.counted.new.scene) c.args.lines.now
    c.counted.new.lines c.in_err-outcome-2.field-0.0 c.from_residual-in_err-outcome-2.result c.from_residual-in_err-outcome-2.ensures.1
    (c.in_err-outcome-2.ensures.halted f deed from c.args.power.now c.requires.ready c.in_ok-outcome.ensures.ends)

pub returns : goal.returns
returns g c =
    let f = c.args.typed.now.file in
    let M = g.S.Scene.machine f in
    let from = g.S.Scene.state f c.args.scene.now in
    let deed = calling (operation_name f c.args.op) c.args.args.now in
    line_done M f (Call c.args.op c.args.args.now) deed command_end (call_line f c.args.op c.args.args.now) c.args.power.now
    c.call.new.power from (g.S.Scene.state f c.counted.new.scene)
    (g.S.Scene.runs f c.counted.new.scene) (g.S.Scene.stands f c.counted.new.scene) c.args.lines.now c.counted.new.lines c.end_command.new.lines
    c.in_ok-outcome-2.outcome
    (c.in_ok-outcome-2.ensures.counted f deed from c.args.power.now (call_cut M f c.args.op c.args.args.now) c.requires.ready
    c.in_ok-outcome.ensures.ends c.in_ok-outcome.ensures.after)
    c.in_ok-end_command.ensures
