use Rattle.std.proofs.Common.{◌≤◌, length}
use Rattle.ygg_run_play.proofs.Going.{Going}
use Rattle.ygg_run_play.proofs.playing.play_lines.Given as goal

-- what is known where these lines are left
abbrev pub invariant-loop-command : goal.invariant-loop-command
invariant-loop-command g l =
    let f = l.typed.file in
    Going (g.S.Scene.machine f) f l.script (g.S.Scene.state f l.fn.scene) (g.K.Sink.taken l.fn.sink) l.rest l.line l.power.picks
    (g.S.Scene.state f l.scene) (g.S.Scene.runs f l.scene) (g.S.Scene.stands f l.scene) (g.K.Sink.taken l.sink)
    × (g.K.Sink.faults l.fn.sink ≤ g.K.Sink.faults l.sink)

abbrev pub decreases-loop-command : goal.decreases-loop-command
decreases-loop-command g l = length l.rest
