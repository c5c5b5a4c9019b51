use Rattle.std.proofs.Common.{List, ℕ, subst}
use Rattle.ygg_base.specs.Outside.{Rose}
use Rattle.ygg_top_command.specs.ygg_report.Putting.{NoFront, IsPutSo}
use Rattle.ygg_top_command.specs.Refusing.{most_bytes}
use Rattle.ygg_top_command.specs.Standing.{DoesWith}
use Rattle.ygg_top_command.proofs.Stops.{unread_stop}
use Rattle.ygg_top_command.proofs.Telling.{put_told, stop_told}
use Rattle.ygg_top.specs.Explaining.{ExplainsStored}
use Rattle.ygg_top.proofs.Explains.{schedule_unread}
use Rattle.ygg_top.proofs.explaining.explain_for.Goals as goal

pub returns-in-Ok-clause-told : goal.returns-in-Ok-clause-told
returns-in-Ok-clause-told g c =
    let files = g.L.Library.files c.args.library.now in
    let before = g.K.Sink.taken c.args.sink.now in
    let now = g.K.Sink.taken c.put_all.new.sink in
    let LibraryRose = Rose (g.L.Library.faults c.args.library.now) (g.L.Library.faults c.explained.new.library) in
    let SinkRose = Rose (g.K.Sink.faults c.args.sink.now) (g.K.Sink.faults c.put_all.new.sink) in
    put_told (DoesWith (ExplainsStored c.args.typed.now.file) files c.args.schedule.now) NoFront before now LibraryRose SinkRose c.put_all.result c.in-Ok.status
    c.in-Ok.line c.in-Ok.ensures.done c.in-Ok.ensures.explains
    (subst (λ (line : List ℕ). IsPutSo before now line c.in-Ok.status SinkRose c.put_all.result) c.as_slice.ensures c.put_all.ensures.told)

pub returns-in-Err-clause-told : goal.returns-in-Err-clause-told
returns-in-Err-clause-told g c =
    let files = g.L.Library.files c.args.library.now in
    let before = g.K.Sink.taken c.args.sink.now in
    let now = g.K.Sink.taken c.end.new.sink in
    let LibraryRose = Rose (g.L.Library.faults c.args.library.now) (g.L.Library.faults c.explained.new.library) in
    let SinkRose = Rose (g.K.Sink.faults c.args.sink.now) (g.K.Sink.faults c.end.new.sink) in
    let f = c.args.typed.now.file in
    stop_told (DoesWith (ExplainsStored f) files c.args.schedule.now) NoFront before now LibraryRose SinkRose c.end.result c.in-Err.stop
    (unread_stop files c.args.schedule.now LibraryRose (ExplainsStored f) most_bytes 2 c.in-Err.stop (schedule_unread f) c.in-Err.ensures.unread)
    c.end.ensures.told
