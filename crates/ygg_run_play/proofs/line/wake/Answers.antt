use Rattle.ygg_run_play.specs.ygg_script.declared.command.Command.TheVariants.{Fail}
use Rattle.ygg_run_play.specs.Scene.{waking}
use Rattle.ygg_run_play.specs.Doing.{waking_end}
use Rattle.ygg_run_play.proofs.Lines.{wake_line, wake_cut, line_done, line_halted}
use Rattle.ygg_run_play.proofs.line.wake.Goals as goal

pub returns-in_err-outcome-2 : goal.returns-in_err-outcome-2
returns-in_err-outcome-2 g c = λ within call.
    let f = c.args.typed.now.file in
    let M = g.S.Scene.machine f in
    let from = g.S.Scene.state f c.args.scene.now in
    let deed = waking in
    line_halted M f (Fail within call) deed waking_end (wake_line f within call) c.args.line c.args.power.now c.wake.new.power from
    (g.S.Scene.state f c.counted.new.scene) (g.S.Scene.runs f c.counted.new.scene) (g.S.Scene.stands f c.counted.new.scene) c.args.lines.now
    c.counted.new.lines c.in_err-outcome-2.field-0.0 c.from_residual-in_err-outcome-2.result c.from_residual-in_err-outcome-2.ensures.1
    (c.in_err-outcome-2.ensures.halted f deed from c.args.power.now c.requires.ready c.in_ok-outcome.ensures.ends)

pub returns : goal.returns
returns g c = λ within call.
    let f = c.args.typed.now.file in
    let M = g.S.Scene.machine f in
    let from = g.S.Scene.state f c.args.scene.now in
    let deed = waking in
    line_done M f (Fail within call) deed waking_end (wake_line f within call) c.args.power.now c.wake.new.power from (g.S.Scene.state f c.counted.new.scene)
    (g.S.Scene.runs f c.counted.new.scene) (g.S.Scene.stands f c.counted.new.scene) c.args.lines.now c.counted.new.lines c.end_waking.new.lines
    c.in_ok-outcome-2.outcome
    (c.in_ok-outcome-2.ensures.counted f deed from c.args.power.now (wake_cut M) c.requires.ready c.in_ok-outcome.ensures.ends c.in_ok-outcome.ensures.after)
    c.in_ok-end_waking.ensures
