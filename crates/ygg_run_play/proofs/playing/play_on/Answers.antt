use Rattle.std.proofs.Common.{List, Err, Ok, subst}
use Rattle.ygg_base.specs.Outside.{Rose}
use Rattle.ygg_run_play.specs.ygg_script.declared.command.Command.{Command}
use Rattle.ygg_run_play.specs.Doing.{ArePut}
use Rattle.ygg_run_play.specs.Playing.{ArePlayed}
use Rattle.ygg_run_play.proofs.Ending.{format_kept, lines_halted, end_played, last_line}
use Rattle.ygg_run_play.proofs.Going.{rose_since}
use Rattle.ygg_run_play.proofs.playing.play_on.Goals as goal

pub play_lines-requires-clause-past : goal.play_lines-requires-clause-past
play_lines-requires-clause-past g c =
    (format_kept (g.S.Scene.machine c.args.typed.now.file) (g.S.Scene.state c.args.typed.now.file c.format.new.self) c.steady-power.result
    c.format.new.power c.steady-power.ensures.past c.steady-power.ensures.none c.in_ok-format.ensures.starts).1

pub play_lines-requires-clause-none : goal.play_lines-requires-clause-none
play_lines-requires-clause-none g c =
    (format_kept (g.S.Scene.machine c.args.typed.now.file) (g.S.Scene.state c.args.typed.now.file c.format.new.self) c.steady-power.result
    c.format.new.power c.steady-power.ensures.past c.steady-power.ensures.none c.in_ok-format.ensures.starts).2

pub returns-in_err-play_lines-clause-played : goal.returns-in_err-play_lines-clause-played
returns-in_err-play_lines-clause-played g c =
    let f = c.args.typed.now.file in
    let M = g.S.Scene.machine f in
    let start = g.S.Scene.state f c.format.new.self in
    let first = g.K.Sink.taken c.args.sink.now in
    let now = g.K.Sink.taken c.play_lines.new.sink in
    let SinkRose = Rose (g.K.Sink.faults c.args.sink.now) (g.K.Sink.faults c.play_lines.new.sink) in
    let kept = format_kept M start c.steady-power.result c.format.new.power c.steady-power.ensures.past c.steady-power.ensures.none
    c.in_ok-format.ensures.starts in
    lines_halted M f c.args.script.now start kept.0 first now SinkRose SinkRose c.in_err-play_lines.field-0.0 c.from_residual-in_err-play_lines.result
    (λ rose. rose) c.from_residual-in_err-play_lines.ensures.1
    (subst (λ (script : List Command). ArePlayed M f script start first now SinkRose (Err c.in_err-play_lines.field-0.0)) c.as_slice.ensures
    c.in_err-play_lines.ensures.played)

pub returns-clause-played : goal.returns-clause-played
returns-clause-played g c =
    let f = c.args.typed.now.file in
    let M = g.S.Scene.machine f in
    let start = g.S.Scene.state f c.format.new.self in
    let first = g.K.Sink.taken c.args.sink.now in
    let middle = g.K.Sink.taken c.play_lines.new.sink in
    let now = g.K.Sink.taken c.put_end.new.sink in
    let before = g.K.Sink.faults c.args.sink.now in
    let count = g.K.Sink.faults c.play_lines.new.sink in
    let last = g.K.Sink.faults c.put_end.new.sink in
    let kept = format_kept M start c.steady-power.result c.format.new.power c.steady-power.ensures.past c.steady-power.ensures.none
    c.in_ok-format.ensures.starts in
    end_played M f c.args.script.now start kept.0 first middle now (Rose count last) (Rose before last) c.put_end.result
    (rose_since before count last c.in_ok-play_lines.ensures.later)
    (subst (λ (script : List Command). ArePlayed M f script start first middle (Rose before count) (Ok tt)) c.as_slice.ensures
    c.in_ok-play_lines.ensures.played)
    (subst (λ (script : List Command). ArePut (last_line script) middle now (Rose count last) c.put_end.result) c.as_slice-2.ensures c.put_end.ensures.put)
