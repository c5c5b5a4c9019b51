use Rattle.std.proofs.Common.{◌≤◌, List, ℕ, arith, subst}
use Rattle.ygg_base.specs.Outside.{Rose}
use Rattle.ygg_top_command.specs.ygg_report.Putting.{IsPutSo}
use Rattle.ygg_top_command.proofs.Telling.{put_told, stop_told}
use Rattle.ygg_top_command.proofs.Breaks.{told_on}
use Rattle.ygg_top.specs.Running.{CertifiedBroken, CertifiedLeft, RunsCertified}
use Rattle.ygg_top.proofs.Certified.{certificate_ends, certificate_proper, certificate_runs, certificate_stops}
use Rattle.ygg_top.proofs.running.run_certified.Goals as goal

pub returns-in-Err-clause-told : goal.returns-in-Err-clause-told
returns-in-Err-clause-told g c =
    let kinds = g.B.Book.kinds c.args.rules.now in
    let f = c.args.typed.now.file in
    let files = g.L.Library.files c.args.library.now in
    let images = g.D.Device.images c.args.device.now in
    let Does = RunsCertified kinds files images images f c.args.certificate.now c.args.image.now c.args.script.now in
    let Left = CertifiedLeft kinds files images images f c.args.certificate.now c.args.image.now c.args.script.now in
    let LibraryRose = Rose (g.L.Library.faults c.args.library.now) (g.L.Library.faults c.checked_stored.new.library) in
    let SinkRose = Rose (g.K.Sink.faults c.args.sink.now) (g.K.Sink.faults c.end.new.sink) in
    told_on (g.K.Sink.taken c.args.sink.now) (g.K.Sink.taken c.end.new.sink) LibraryRose
    (Rose (g.D.Device.faults c.args.device.now) (g.D.Device.faults c.args.device.now)) SinkRose c.end.result Does Left
    (CertifiedBroken kinds files images images f c.args.certificate.now c.args.image.now c.args.script.now)
    (stop_told Does Left (g.K.Sink.taken c.args.sink.now) (g.K.Sink.taken c.end.new.sink) LibraryRose SinkRose c.end.result c.in-Err.stop
    (certificate_stops kinds f files c.args.certificate.now c.args.image.now c.args.script.now images LibraryRose c.in-Err.stop c.in-Err.ensures.stops)
    c.end.ensures.told)

pub returns-in-Done-clause-told : goal.returns-in-Done-clause-told
returns-in-Done-clause-told g c =
    let files = g.L.Library.files c.args.library.now in
    let first = g.L.Library.faults c.args.library.now in
    let second = g.L.Library.faults c.checked_stored.new.library in
    let last = g.L.Library.faults c.run_script.new.library in
    let since : first ≤ second = c.in-Ok.ensures.later in
    let more : Rose second last → Rose first last = λ rose. omega (arith, rose, since) in
    certificate_runs (g.B.Book.kinds c.args.rules.now) c.args.typed.now.file files c.args.certificate.now c.args.image.now c.args.script.now
    (g.L.Library.files c.checked_stored.new.library) (g.D.Device.images c.args.device.now) (g.D.Device.images c.run_script.new.device) c.in-Ok.checked.0
    c.in-Ok.checked.1 c.in-Ok.ensures.kept c.in-Done.is c.in-Ok.ensures.done (g.K.Sink.taken c.args.sink.now) (g.K.Sink.taken c.run_script.new.sink)
    (Rose second last) (Rose first last) (Rose (g.D.Device.faults c.args.device.now) (g.D.Device.faults c.run_script.new.device))
    (Rose (g.K.Sink.faults c.args.sink.now) (g.K.Sink.faults c.run_script.new.sink)) c.run_script.result more c.run_script.ensures.told

pub returns-clause-told : goal.returns-clause-told
returns-clause-told g c =
    let kinds = g.B.Book.kinds c.args.rules.now in
    let f = c.args.typed.now.file in
    let files = g.L.Library.files c.args.library.now in
    let images = g.D.Device.images c.args.device.now in
    let Does = RunsCertified kinds files images images f c.args.certificate.now c.args.image.now c.args.script.now in
    let Left = CertifiedLeft kinds files images images f c.args.certificate.now c.args.image.now c.args.script.now in
    let LibraryRose = Rose (g.L.Library.faults c.args.library.now) (g.L.Library.faults c.checked_stored.new.library) in
    let SinkRose = Rose (g.K.Sink.faults c.args.sink.now) (g.K.Sink.faults c.put_all.new.sink) in
    let taken = g.K.Sink.taken c.args.sink.now in
    let last = g.K.Sink.taken c.put_all.new.sink in
    told_on taken last LibraryRose (Rose (g.D.Device.faults c.args.device.now) (g.D.Device.faults c.args.device.now)) SinkRose c.put_all.result Does Left
    (CertifiedBroken kinds files images images f c.args.certificate.now c.args.image.now c.args.script.now)
    (put_told Does Left taken last LibraryRose SinkRose c.put_all.result c.in-Ok.checked.0 c.in-Ok.checked.1
    (certificate_proper kinds f files c.args.certificate.now c.args.image.now c.args.script.now c.in-Ok.checked.0 c.in-Ok.checked.1 c.in-Ok.ensures.done)
    (certificate_ends kinds f files c.args.certificate.now c.args.image.now c.args.script.now images c.in-Ok.checked.0 c.in-Ok.checked.1 c.in-Ok.ensures.done
    c.in_default.not-Done)
    (subst (λ (text : List ℕ). IsPutSo taken last text c.in-Ok.checked.0 SinkRose c.put_all.result) c.as_slice.ensures c.put_all.ensures.told))
