use Rattle.ygg_base.specs.Outside.{Rose}
use Rattle.ygg_run_mounted.specs.Extending.{HasRun}
use Rattle.ygg_top_command.proofs.Telling.{stop_told}
use Rattle.ygg_top_command.proofs.Breaks.{told_on}
use Rattle.ygg_top.specs.Scripts.{RunsScript, ScriptBroken, ScriptLeft}
use Rattle.ygg_top.proofs.Scripted.{script_stops, script_runs}
use Rattle.ygg_top.proofs.script.run_script.Goals as goal

pub returns-in-Ok-clause-told : goal.returns-in-Ok-clause-told
returns-in-Ok-clause-told g c =
    let f = c.args.typed.now.file in
    let files = g.L.Library.files c.args.library.now in
    script_runs f files c.args.image.now c.args.script.now (HasRun f) (g.D.Device.images c.args.device.now) (g.D.Device.images c.run_image.new.device)
    c.in-Ok.commands c.in-Ok.ensures.found (g.K.Sink.taken c.args.sink.now) (g.K.Sink.taken c.run_image.new.sink)
    (Rose (g.L.Library.faults c.args.library.now) (g.L.Library.faults c.script_for.new.library))
    (Rose (g.D.Device.faults c.args.device.now) (g.D.Device.faults c.run_image.new.device))
    (Rose (g.K.Sink.faults c.args.sink.now) (g.K.Sink.faults c.run_image.new.sink)) c.run_image.result c.run_image.ensures.told

pub returns-in-Err-clause-told : goal.returns-in-Err-clause-told
returns-in-Err-clause-told g c =
    let f = c.args.typed.now.file in
    let files = g.L.Library.files c.args.library.now in
    let images = g.D.Device.images c.args.device.now in
    let Does = RunsScript f files c.args.image.now c.args.script.now images images (HasRun f) in
    let Left = ScriptLeft f files c.args.image.now c.args.script.now images images in
    let LibraryRose = Rose (g.L.Library.faults c.args.library.now) (g.L.Library.faults c.script_for.new.library) in
    let SinkRose = Rose (g.K.Sink.faults c.args.sink.now) (g.K.Sink.faults c.end.new.sink) in
    told_on (g.K.Sink.taken c.args.sink.now) (g.K.Sink.taken c.end.new.sink) LibraryRose
    (Rose (g.D.Device.faults c.args.device.now) (g.D.Device.faults c.args.device.now)) SinkRose c.end.result Does Left
    (ScriptBroken f files c.args.image.now c.args.script.now images images)
    (stop_told Does Left (g.K.Sink.taken c.args.sink.now) (g.K.Sink.taken c.end.new.sink) LibraryRose SinkRose c.end.result c.in-Err.stop
    (script_stops f files c.args.image.now c.args.script.now (HasRun f) images LibraryRose c.in-Err.stop c.in-Err.ensures.none) c.end.ensures.told)
