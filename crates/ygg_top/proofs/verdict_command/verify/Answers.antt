use Rattle.std.proofs.Common.{refl}
use Rattle.ygg_top.proofs.of_ygg_top_command.Stops.{file_stop}
use Rattle.ygg_top.proofs.of_ygg_top_command.Telling.{stop_told}
use Rattle.ygg_top.specs.Verifying.{Verifies}
use Rattle.ygg_top.proofs.Found.{file_told}
use Rattle.ygg_top.proofs.verdict_command.verify.Goals as goal

pub returns-clause-told : goal.returns-clause-told
returns-clause-told g c =
    file_told (g.B.Book.kinds c.args.rules.now) (g.L.Library.files c.args.library.now) c.args.name.now (g.K.Sink.taken c.args.sink.now)
    (g.K.Sink.taken c.put_verdicts-status.new.sink) _ _ c.put_verdicts-status.result c.in-Ok.typed.file c.args.budget c.requires c.in-Ok.ensures.found
    c.put_verdicts-status.ensures.told

pub returns-in-Err-clause-told : goal.returns-in-Err-clause-told
returns-in-Err-clause-told g c =
    stop_told _ _ (g.K.Sink.taken c.args.sink.now) (g.K.Sink.taken c.end.new.sink) _ _ c.end.result c.in-Err.stop
    (file_stop (g.L.Library.files c.args.library.now) c.args.name.now _ (Verifies (g.B.Book.kinds c.args.rules.now) c.args.budget) c.in-Err.stop
    (λ stored r refuses. (r, refuses, refl)) c.in-Err.ensures.none) c.end.ensures.told
