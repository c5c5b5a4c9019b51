use Rattle.std.proofs.Common.{refl, subst, inl, inr}
use Rattle.ygg_base.specs.Outside.{Rose}
use Rattle.ygg_top_command.specs.declared.stopping.CommandStop.TheVariants.{Refused}
use Rattle.ygg_top_command.specs.Reports.{EndsBy}
use Rattle.ygg_top_command.proofs.Telling.{puts_told, stop_told}
use Rattle.ygg_run.specs.Playing.{PlaysTo, IsFrontOfPlay}
use Rattle.ygg_top.specs.Playing.{PlaysScript, IsCutPlaying}
use Rattle.ygg_top.proofs.Plays.{cut_script}
use Rattle.ygg_top.proofs.playing.play_script.Goals as goal

pub returns-in-Ok-clause-told : goal.returns-in-Ok-clause-told
returns-in-Ok-clause-told g c =
    let f = c.args.typed.now.file in
    let script = c.args.script.now in
    puts_told (PlaysScript f script) (IsCutPlaying (PlaysScript f script)) (g.K.Sink.taken c.args.sink.now) (g.K.Sink.taken c.put_play.new.sink) ⊥
    (Rose (g.K.Sink.faults c.args.sink.now) (g.K.Sink.faults c.put_play.new.sink)) c.in-Ok.status (PlaysTo f script) (IsFrontOfPlay f script)
    (λ status text plays. inl plays) (cut_script f script) c.in-Ok.ensures.put

pub returns-in-Err-clause-told : goal.returns-in-Err-clause-told
returns-in-Err-clause-told g c =
    let f = c.args.typed.now.file in
    let script = c.args.script.now in
    stop_told (PlaysScript f script) (IsCutPlaying (PlaysScript f script)) (g.K.Sink.taken c.args.sink.now) (g.K.Sink.taken c.end.new.sink) ⊥
    (Rose (g.K.Sink.faults c.args.sink.now) (g.K.Sink.faults c.end.new.sink)) c.end.result (Refused c.in-Err.at)
    (inr (c.in-Err.at, c.in-Err.ensures.refused, (refl, refl)))
    (subst (λ (s : g.row.K.Denot).
    EndsBy (Refused c.in-Err.at) (g.K.Sink.taken s) (g.K.Sink.taken c.end.new.sink) (Rose (g.K.Sink.faults s) (g.K.Sink.faults c.end.new.sink)) c.end.result)
    c.in-Err.ensures.same c.end.ensures.told)
