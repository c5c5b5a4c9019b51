use Rattle.std.proofs.Common.{List, ℕ, Option, subst}
use Rattle.ygg_base.specs.declared.lists.Held.{Held}
use Rattle.ygg_base.specs.declared.status.Status.{Status}
use Rattle.ygg_base.specs.Outside.{Rose}
use Rattle.ygg_top_command.specs.Standing.{DoesWith}
use Rattle.ygg_top_command.proofs.Stops.{file_stop}
use Rattle.ygg_top_command.proofs.Telling.{stop_told, told_to}
use Rattle.ygg_top.specs.Playing.{Plays, PlaysNamed, PlaysStored, IsCutPlaying}
use Rattle.ygg_top.proofs.Plays.{file_read, file_refused, cut_more, rose_since}
use Rattle.ygg_top.proofs.playing.play.Goals as goal

pub returns-clause-told : goal.returns-clause-told
returns-clause-told g c =
    let files = g.L.Library.files c.args.library.now in
    let middle = g.L.Library.files c.layer_file.new.library in
    let f = c.in-Ok.typed.file in
    let first = g.L.Library.faults c.args.library.now in
    let second = g.L.Library.faults c.layer_file.new.library in
    let last = g.L.Library.faults c.play_for-status.new.library in
    let Does = DoesWith (PlaysStored f) middle c.args.script.now in
    let Other = PlaysNamed files c.args.file.now c.args.script.now in
    let more : (status : Status) (text : List ℕ) → Does status text → Other status text =
    λ status text does.
    file_read files c.args.file.now c.args.script.now f c.in-Ok.ensures.found status text
    (subst (λ (held : Option (List Held)). DoesWith (PlaysStored f) held c.args.script.now status text) c.in-Ok.ensures.kept does) in
    told_to Does Other (IsCutPlaying Does) (IsCutPlaying Other) (g.K.Sink.taken c.args.sink.now) (g.K.Sink.taken c.play_for-status.new.sink)
    (Rose second last) (Rose first last) (Rose (g.K.Sink.faults c.args.sink.now) (g.K.Sink.faults c.play_for-status.new.sink)) c.play_for-status.result more
    (cut_more Does Other more) (rose_since first second last c.in-Ok.ensures.later) c.play_for-status.ensures.told

pub returns-in-Err-clause-told : goal.returns-in-Err-clause-told
returns-in-Err-clause-told g c =
    let files = g.L.Library.files c.args.library.now in
    let Does = PlaysNamed files c.args.file.now c.args.script.now in
    let LibraryRose = Rose (g.L.Library.faults c.args.library.now) (g.L.Library.faults c.layer_file.new.library) in
    stop_told Does (IsCutPlaying Does) (g.K.Sink.taken c.args.sink.now) (g.K.Sink.taken c.end.new.sink) LibraryRose
    (Rose (g.K.Sink.faults c.args.sink.now) (g.K.Sink.faults c.end.new.sink)) c.end.result c.in-Err.stop
    (file_stop files c.args.file.now LibraryRose (Plays files c.args.script.now) c.in-Err.stop (file_refused files c.args.script.now) c.in-Err.ensures.none)
    c.end.ensures.told
