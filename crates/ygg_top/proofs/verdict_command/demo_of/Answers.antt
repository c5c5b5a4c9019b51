use Rattle.ygg_top.proofs.of_ygg_top_command.Telling.{stop_told}
use Rattle.ygg_top.proofs.Found.{made_told, none_made}
use Rattle.ygg_top.proofs.verdict_command.demo_of.Goals as goal

pub returns-clause-told : goal.returns-clause-told
returns-clause-told g c =
    made_told (g.B.Book.kinds c.args.rules.now) (g.K.Sink.taken c.args.sink.now) (g.K.Sink.taken c.put_counts-status.new.sink) _ c.put_counts-status.result
    c.args.number c.in-Ok.typed.file c.in-Ok.ensures.found c.put_counts-status.ensures.told

pub returns-in-Err-clause-told : goal.returns-in-Err-clause-told
returns-in-Err-clause-told g c =
    stop_told _ _ (g.K.Sink.taken c.args.sink.now) (g.K.Sink.taken c.end.new.sink) _ _ c.end.result c.in-Err.stop
    (none_made (g.B.Book.kinds c.args.rules.now) c.args.number c.in-Err.stop c.in-Err.ensures.none) c.end.ensures.told
