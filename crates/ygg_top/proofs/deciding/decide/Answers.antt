use Rattle.std.proofs.Common.{List, ℕ, subst}
use Rattle.ygg_base.specs.Outside.{Rose}
use Rattle.ygg_report.specs.Putting.{NoFront}
use Rattle.ygg_top_command.specs.Reports.{Told}
use Rattle.ygg_top_command.proofs.Stops.{file_stop}
use Rattle.ygg_top_command.proofs.Telling.{stop_told, told_to}
use Rattle.ygg_top.specs.Deciding.{Decides, DecidesNamed, DecidesStored}
use Rattle.ygg_top.proofs.Decides.{file_read, file_refused}
use Rattle.ygg_top.proofs.deciding.decide.Goals as goal

pub returns-clause-told : goal.returns-clause-told
returns-clause-told g c =
    let kinds = g.B.Book.kinds c.args.rules.now in
    let files = g.L.Library.files c.args.library.now in
    let f = c.in-Ok.typed.file in
    let name = c.args.name.now in
    let before = g.K.Sink.taken c.args.sink.now in
    let now = g.K.Sink.taken c.decide_of-status.new.sink in
    let LibraryRose = Rose (g.L.Library.faults c.args.library.now) (g.L.Library.faults c.layer_file.new.library) in
    let SinkRose = Rose (g.K.Sink.faults c.args.sink.now) (g.K.Sink.faults c.decide_of-status.new.sink) in
    let Does = Decides kinds f c.args.budget name in
    let told : Told Does NoFront before now ⊥ SinkRose c.decide_of-status.result =
    subst (λ (given : List ℕ). Told (Decides kinds f c.args.budget given) NoFront before now ⊥ SinkRose c.decide_of-status.result)
    c.as_slice.ensures c.decide_of-status.ensures.told in
    told_to Does (DecidesNamed kinds c.args.budget files c.args.file.now name) NoFront NoFront before now ⊥ LibraryRose SinkRose c.decide_of-status.result
    (file_read kinds c.args.budget files c.args.file.now name f c.in-Ok.ensures.found) (λ front none. none) (λ none. absurd none) told

pub returns-in-Err-clause-told : goal.returns-in-Err-clause-told
returns-in-Err-clause-told g c =
    let kinds = g.B.Book.kinds c.args.rules.now in
    let files = g.L.Library.files c.args.library.now in
    let LibraryRose = Rose (g.L.Library.faults c.args.library.now) (g.L.Library.faults c.layer_file.new.library) in
    stop_told (DecidesNamed kinds c.args.budget files c.args.file.now c.args.name.now) NoFront (g.K.Sink.taken c.args.sink.now)
    (g.K.Sink.taken c.end.new.sink) LibraryRose (Rose (g.K.Sink.faults c.args.sink.now) (g.K.Sink.faults c.end.new.sink)) c.end.result c.in-Err.stop
    (file_stop files c.args.file.now LibraryRose (DecidesStored kinds c.args.budget c.args.name.now) c.in-Err.stop
    (file_refused kinds c.args.budget c.args.name.now) c.in-Err.ensures.none) c.end.ensures.told
