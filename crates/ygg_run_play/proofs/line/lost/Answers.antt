use Rattle.std.proofs.Common.{false}
use Rattle.ygg_run_play.proofs.Lines.{lost_ends}
use Rattle.ygg_run_play.proofs.line.lost.Goals as goal

pub returns : goal.returns
returns g c =
    let f = c.args.typed.now.file in
    lost_ends (g.S.Scene.machine f) f false 0 c.args.line c.args.power.now c.wake.new.power (g.S.Scene.state f c.args.scene.now)
    (g.S.Scene.state f c.wake.new.scene) (g.S.Scene.state f c.lose.new.self).base (g.S.Scene.runs f c.wake.new.scene)
    (g.S.Scene.stands f c.wake.new.scene) c.args.lines.now c.put_down.new.out c.wake.new.lines (c.lose.ensures.lost f c.requires.runs)
    c.in_ok-put_down.ensures c.wake.result (c.wake.ensures false 0)
