use Rattle.std.proofs.Common.{◌≤◌, arith}
use Rattle.ygg_base.specs.Outside.{Rose}
use Rattle.ygg_top_command.proofs.Telling.{stop_told}
use Rattle.ygg_top_command.proofs.Breaks.{told_on}
use Rattle.ygg_top.specs.Running.{RunsBroken, RunsLeft, RunsNamed}
use Rattle.ygg_top.proofs.Named.{file_leaves, file_runs, file_stops}
use Rattle.ygg_top.proofs.running.run.Goals as goal

pub returns-in-Err-clause-told : goal.returns-in-Err-clause-told
returns-in-Err-clause-told g c =
    let kinds = g.B.Book.kinds c.args.rules.now in
    let files = g.L.Library.files c.args.library.now in
    let images = g.D.Device.images c.args.device.now in
    let Does = RunsNamed kinds files images images c.args.file.now c.args.certificate.now c.args.image.now c.args.script.now in
    let Left = RunsLeft kinds files images images c.args.file.now c.args.certificate.now c.args.image.now c.args.script.now in
    let LibraryRose = Rose (g.L.Library.faults c.args.library.now) (g.L.Library.faults c.layer_file.new.library) in
    let SinkRose = Rose (g.K.Sink.faults c.args.sink.now) (g.K.Sink.faults c.end.new.sink) in
    told_on (g.K.Sink.taken c.args.sink.now) (g.K.Sink.taken c.end.new.sink) LibraryRose
    (Rose (g.D.Device.faults c.args.device.now) (g.D.Device.faults c.args.device.now)) SinkRose c.end.result Does Left
    (RunsBroken kinds files images images c.args.file.now c.args.certificate.now c.args.image.now c.args.script.now)
    (stop_told Does Left (g.K.Sink.taken c.args.sink.now) (g.K.Sink.taken c.end.new.sink) LibraryRose SinkRose c.end.result c.in-Err.stop
    (file_stops kinds files c.args.file.now c.args.certificate.now c.args.image.now c.args.script.now images LibraryRose c.in-Err.stop c.in-Err.ensures.none)
    c.end.ensures.told)

pub returns-clause-told : goal.returns-clause-told
returns-clause-told g c =
    let kinds = g.B.Book.kinds c.args.rules.now in
    let files = g.L.Library.files c.args.library.now in
    let first = g.L.Library.faults c.args.library.now in
    let second = g.L.Library.faults c.layer_file.new.library in
    let last = g.L.Library.faults c.run_certified-status.new.library in
    let since : first ≤ second = c.in-Ok.ensures.later in
    let more : Rose second last → Rose first last = λ rose. omega (arith, rose, since) in
    file_runs kinds files c.args.file.now c.args.certificate.now c.args.image.now c.args.script.now (g.L.Library.files c.layer_file.new.library)
    (g.D.Device.images c.args.device.now) (g.D.Device.images c.run_certified-status.new.device) c.in-Ok.typed.file c.in-Ok.ensures.kept c.in-Ok.ensures.found
    (g.K.Sink.taken c.args.sink.now) (g.K.Sink.taken c.run_certified-status.new.sink) (Rose second last) (Rose first last)
    (Rose (g.D.Device.faults c.args.device.now) (g.D.Device.faults c.run_certified-status.new.device))
    (Rose (g.K.Sink.faults c.args.sink.now) (g.K.Sink.faults c.run_certified-status.new.sink)) c.run_certified-status.result more
    c.run_certified-status.ensures.told

pub returns-clause-leaves : goal.returns-clause-leaves
returns-clause-leaves g c =
    file_leaves (g.L.Library.files c.args.library.now) c.args.file.now c.args.image.now c.in-Ok.typed.file (g.D.Device.images c.args.device.now)
    (g.D.Device.images c.run_certified-status.new.device) c.in-Ok.ensures.found c.run_certified-status.ensures.leaves
