use Rattle.std.proofs.Common.{sym, subst}
use Rattle.ygg_run_play.specs.ygg_script.declared.command.Command.{Command}
use Rattle.ygg_run_play.specs.Doing.{LineEnds, standing, is_fail}
use Rattle.ygg_run_play.proofs.line.do_line.Goals as goal

pub returns-in-Fail : goal.returns-in-Fail
returns-in-Fail g c =
    let f = c.args.typed.now.file in
    subst
    (λ (x : Command).
    LineEnds (g.S.Scene.machine f) f x c.args.line c.args.power.now c.wake.new.power (standing (is_fail x) (g.S.Scene.state f c.args.scene.now))
    (g.S.Scene.state f c.wake.new.scene) (g.S.Scene.runs f c.wake.new.scene) (g.S.Scene.stands f c.wake.new.scene) c.args.lines.now c.wake.new.lines
    c.wake.result) (sym c.in-Fail.is) (c.wake.ensures c.in-Fail.within c.in-Fail.call)
