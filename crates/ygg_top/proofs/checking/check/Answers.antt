use Rattle.std.proofs.Common.{List, ℕ, subst}
use Rattle.ygg_base.specs.Outside.{Rose}
use Rattle.ygg_certify.specs.ygg_report.Putting.{IsPutSo, NoFront}
use Rattle.ygg_top.proofs.of_ygg_top_command.Telling.{put_told, stop_told}
use Rattle.ygg_top.specs.Checking.{ChecksNamed}
use Rattle.ygg_top.proofs.Checked.{proper}
use Rattle.ygg_top.proofs.checking.check.Goals as goal

pub returns-in-Ok-clause-told : goal.returns-in-Ok-clause-told
returns-in-Ok-clause-told g c =
    let kinds = g.B.Book.kinds c.args.rules.now in
    let files = g.L.Library.files c.args.library.now in
    put_told (ChecksNamed kinds files c.args.file.now c.args.certificate.now) NoFront (g.K.Sink.taken c.args.sink.now) (g.K.Sink.taken c.put_all.new.sink)
    (Rose (g.L.Library.faults c.args.library.now) (g.L.Library.faults c.checked.new.library))
    (Rose (g.K.Sink.faults c.args.sink.now) (g.K.Sink.faults c.put_all.new.sink)) c.put_all.result c.in-Ok.status c.in-Ok.text
    (proper kinds files c.args.file.now c.args.certificate.now c.in-Ok.status c.in-Ok.text c.in-Ok.ensures.done) c.in-Ok.ensures.done
    (subst (λ (text : List ℕ). IsPutSo (g.K.Sink.taken c.args.sink.now) (g.K.Sink.taken c.put_all.new.sink) text c.in-Ok.status
    (Rose (g.K.Sink.faults c.args.sink.now) (g.K.Sink.faults c.put_all.new.sink)) c.put_all.result) c.as_slice.ensures c.put_all.ensures.told)

pub returns-in-Err-clause-told : goal.returns-in-Err-clause-told
returns-in-Err-clause-told g c =
    stop_told (ChecksNamed (g.B.Book.kinds c.args.rules.now) (g.L.Library.files c.args.library.now) c.args.file.now c.args.certificate.now) NoFront
    (g.K.Sink.taken c.args.sink.now) (g.K.Sink.taken c.end.new.sink)
    (Rose (g.L.Library.faults c.args.library.now) (g.L.Library.faults c.checked.new.library))
    (Rose (g.K.Sink.faults c.args.sink.now) (g.K.Sink.faults c.end.new.sink)) c.end.result c.in-Err.stop c.in-Err.ensures.stops c.end.ensures.told
