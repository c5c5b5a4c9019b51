use Rattle.std.proofs.Common.{List, ℕ, subst}
use Rattle.ygg_base.specs.Outside.{Rose}
use Rattle.ygg_top_command.specs.Reports.{Told}
use Rattle.ygg_top_command.proofs.Stops.{file_stop}
use Rattle.ygg_top_command.proofs.Telling.{stop_told, told_to}
use Rattle.ygg_top.specs.Asking.{Asks, AsksStored, AsksNamed, IsCutAsking}
use Rattle.ygg_top.proofs.Asked.{file_read, file_refused, front_to}
use Rattle.ygg_top.proofs.asking.cnf.Goals as goal

pub returns-clause-told : goal.returns-clause-told
returns-clause-told g c =
    let kinds = g.B.Book.kinds c.args.rules.now in
    let files = g.L.Library.files c.args.library.now in
    let f = c.in-Ok.typed.file in
    let name = c.args.name.now in
    let before = g.K.Sink.taken c.args.sink.now in
    let now = g.K.Sink.taken c.cnf_of-status.new.sink in
    let LibraryRose = Rose (g.L.Library.faults c.args.library.now) (g.L.Library.faults c.layer_file.new.library) in
    let SinkRose = Rose (g.K.Sink.faults c.args.sink.now) (g.K.Sink.faults c.cnf_of-status.new.sink) in
    let Does = Asks kinds f name in
    let Other = AsksNamed kinds files c.args.file.now name in
    let told : Told Does (IsCutAsking kinds Does) before now ⊥ SinkRose c.cnf_of-status.result =
    subst (λ (given : List ℕ). Told (Asks kinds f given) (IsCutAsking kinds (Asks kinds f given)) before now ⊥ SinkRose c.cnf_of-status.result)
    c.as_slice.ensures c.cnf_of-status.ensures.told in
    let does = file_read kinds files c.args.file.now name f c.in-Ok.ensures.found in
    told_to Does Other (IsCutAsking kinds Does) (IsCutAsking kinds Other) before now ⊥ LibraryRose SinkRose c.cnf_of-status.result does
    (front_to kinds Does Other does) (λ none. absurd none) told

pub returns-in-Err-clause-told : goal.returns-in-Err-clause-told
returns-in-Err-clause-told g c =
    let kinds = g.B.Book.kinds c.args.rules.now in
    let files = g.L.Library.files c.args.library.now in
    let Does = AsksNamed kinds files c.args.file.now c.args.name.now in
    let LibraryRose = Rose (g.L.Library.faults c.args.library.now) (g.L.Library.faults c.layer_file.new.library) in
    stop_told Does (IsCutAsking kinds Does) (g.K.Sink.taken c.args.sink.now) (g.K.Sink.taken c.end.new.sink) LibraryRose
    (Rose (g.K.Sink.faults c.args.sink.now) (g.K.Sink.faults c.end.new.sink)) c.end.result c.in-Err.stop
    (file_stop files c.args.file.now LibraryRose (AsksStored kinds c.args.name.now) c.in-Err.stop (file_refused kinds c.args.name.now) c.in-Err.ensures.none)
    c.end.ensures.told
