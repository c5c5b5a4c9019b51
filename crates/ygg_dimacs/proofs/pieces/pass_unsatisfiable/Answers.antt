use Rattle.std.specs.Prelude.{codes}
use Rattle.ygg_base.specs.Outside.{Rose}
use Rattle.ygg_cnf.specs.Pieces.{log_lines}
use Rattle.ygg_cnf.proofs.Flowing.{text_done, text_short, rose_since}
use Rattle.ygg_dimacs.proofs.pieces.pass_unsatisfiable.Goals as goal

pub returns-in-Ok-pass_log-clause-told : goal.returns-in-Ok-pass_log-clause-told
returns-in-Ok-pass_log-clause-told g c =
    text_done (g.K.Sink.taken c.args.sink.now) (g.K.Sink.taken c.pass_log.new.sink) (g.K.Sink.taken c.finish.new.sink) c.in-Ok.kept (codes "unsatisfiable\n")
    c.pass_log.new.kept
    (log_lines c.args.log.now) (codes "e\n") (Rose (g.K.Sink.faults c.pass_log.new.sink) (g.K.Sink.faults c.finish.new.sink))
    (Rose (g.K.Sink.faults c.args.sink.now) (g.K.Sink.faults c.finish.new.sink)) c.finish.result c.in-Ok.ensures c.in-Ok-pass_log.ensures.told
    c.finish.ensures.told
    (rose_since (g.K.Sink.faults c.args.sink.now) (g.K.Sink.faults c.pass_log.new.sink) (g.K.Sink.faults c.finish.new.sink) c.pass_log.ensures.later)

pub returns-clause-told : goal.returns-clause-told
returns-clause-told g c =
    text_short (g.K.Sink.taken c.args.sink.now) (g.K.Sink.taken c.pass_log.new.sink) c.in-Ok.kept (codes "unsatisfiable\n") c.pass_log.new.kept
    (log_lines c.args.log.now) (codes "e\n") (Rose (g.K.Sink.faults c.args.sink.now) (g.K.Sink.faults c.pass_log.new.sink)) c.in-Err.status c.in-Ok.ensures
    c.in-Err.ensures.told
