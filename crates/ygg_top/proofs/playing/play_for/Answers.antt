use Rattle.ygg_base.specs.Outside.{Rose}
use Rattle.ygg_top_command.specs.Standing.{DoesWith}
use Rattle.ygg_top_command.proofs.Telling.{stop_told, told_to}
use Rattle.ygg_top.specs.Playing.{PlaysScript, PlaysStored, IsCutPlaying}
use Rattle.ygg_top.proofs.Plays.{script_read, script_stop, cut_more}
use Rattle.ygg_top.proofs.playing.play_for.Goals as goal

pub returns-in-Ok-clause-told : goal.returns-in-Ok-clause-told
returns-in-Ok-clause-told g c =
    let f = c.args.typed.now.file in
    let files = g.L.Library.files c.args.library.now in
    let name = c.args.name.now in
    let script = c.in-Ok.script in
    let Does = PlaysScript f script in
    let Other = DoesWith (PlaysStored f) files name in
    told_to Does Other (IsCutPlaying Does) (IsCutPlaying Other) (g.K.Sink.taken c.args.sink.now) (g.K.Sink.taken c.play_script.new.sink) ⊥
    (Rose (g.L.Library.faults c.args.library.now) (g.L.Library.faults c.script_for.new.library))
    (Rose (g.K.Sink.faults c.args.sink.now) (g.K.Sink.faults c.play_script.new.sink)) c.play_script.result
    (script_read f files name script c.in-Ok.ensures.found) (cut_more Does Other (script_read f files name script c.in-Ok.ensures.found))
    (λ none. absurd none) c.play_script.ensures.told

pub returns-in-Err-clause-told : goal.returns-in-Err-clause-told
returns-in-Err-clause-told g c =
    let f = c.args.typed.now.file in
    let files = g.L.Library.files c.args.library.now in
    let name = c.args.name.now in
    let Does = DoesWith (PlaysStored f) files name in
    let LibraryRose = Rose (g.L.Library.faults c.args.library.now) (g.L.Library.faults c.script_for.new.library) in
    stop_told Does (IsCutPlaying Does) (g.K.Sink.taken c.args.sink.now) (g.K.Sink.taken c.end.new.sink) LibraryRose
    (Rose (g.K.Sink.faults c.args.sink.now) (g.K.Sink.faults c.end.new.sink)) c.end.result c.in-Err.stop
    (script_stop f files name LibraryRose c.in-Err.stop c.in-Err.ensures.none) c.end.ensures.told
