use Rattle.std.proofs.Common.{List, Option, subst}
use Rattle.ygg_base.specs.declared.lists.Held.{Held}
use Rattle.ygg_base.specs.Outside.{Rose}
use Rattle.ygg_top_command.specs.ygg_report.Putting.{NoFront}
use Rattle.ygg_top_command.specs.Standing.{DoesWith}
use Rattle.ygg_top_command.proofs.Stops.{file_stop}
use Rattle.ygg_top_command.proofs.Telling.{stop_told, told_to}
use Rattle.ygg_top.specs.Explaining.{Explains, ExplainsNamed, ExplainsStored}
use Rattle.ygg_top.proofs.Explains.{file_read, file_refused, rose_since}
use Rattle.ygg_top.proofs.explaining.explain.Goals as goal

pub returns-clause-told : goal.returns-clause-told
returns-clause-told g c =
    let files = g.L.Library.files c.args.library.now in
    let middle = g.L.Library.files c.layer_file.new.library in
    let f = c.in-Ok.typed.file in
    let first = g.L.Library.faults c.args.library.now in
    let second = g.L.Library.faults c.layer_file.new.library in
    let last = g.L.Library.faults c.explain_for-status.new.library in
    told_to (DoesWith (ExplainsStored f) middle c.args.schedule.now) (ExplainsNamed files c.args.file.now c.args.schedule.now) NoFront NoFront
    (g.K.Sink.taken c.args.sink.now) (g.K.Sink.taken c.explain_for-status.new.sink) (Rose second last) (Rose first last)
    (Rose (g.K.Sink.faults c.args.sink.now) (g.K.Sink.faults c.explain_for-status.new.sink)) c.explain_for-status.result
    (λ status text does.
    file_read files c.args.file.now c.args.schedule.now f c.in-Ok.ensures.found status text
    (subst (λ (held : Option (List Held)). DoesWith (ExplainsStored f) held c.args.schedule.now status text) c.in-Ok.ensures.kept does))
    (λ front none. none) (rose_since first second last c.in-Ok.ensures.later) c.explain_for-status.ensures.told

pub returns-in-Err-clause-told : goal.returns-in-Err-clause-told
returns-in-Err-clause-told g c =
    let files = g.L.Library.files c.args.library.now in
    let LibraryRose = Rose (g.L.Library.faults c.args.library.now) (g.L.Library.faults c.layer_file.new.library) in
    stop_told (ExplainsNamed files c.args.file.now c.args.schedule.now) NoFront (g.K.Sink.taken c.args.sink.now) (g.K.Sink.taken c.end.new.sink) LibraryRose
    (Rose (g.K.Sink.faults c.args.sink.now) (g.K.Sink.faults c.end.new.sink)) c.end.result c.in-Err.stop
    (file_stop files c.args.file.now LibraryRose (Explains files c.args.schedule.now) c.in-Err.stop (file_refused files c.args.schedule.now)
    c.in-Err.ensures.none) c.end.ensures.told
