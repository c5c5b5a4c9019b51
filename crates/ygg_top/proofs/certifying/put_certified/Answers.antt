use Rattle.std.proofs.Common.{List, sym, subst}
use Rattle.ygg_certify.specs.Certifying.{IsOpen}
use Rattle.ygg_certify.specs.declared.finding.Finding.{Finding}
use Rattle.ygg_top.proofs.Certifies.{certificate_put, opened_put}
use Rattle.ygg_top.proofs.certifying.put_certified.Goals as goal

pub returns-in-Ends-clause-told : goal.returns-in-Ends-clause-told
returns-in-Ends-clause-told g c =
    certificate_put c.judged_once.ensures (g.B.Book.kinds c.args.rules.now) c.args.typed.now.file c.args.budget (g.K.Sink.taken c.args.sink.now)
    (g.K.Sink.taken c.certify.new.sink) _ c.in-Ends.status c.in-Ends.ensures.told

pub put_opened-requires : goal.put_opened-requires
put_opened-requires g c =
    subst (λ (fs : List Finding). IsOpen (g.B.Book.kinds c.args.rules.now) c.args.typed.now.file c.args.budget fs) (sym c.as_slice.ensures)
    c.in-Open.ensures.told.1

pub returns-in-Open-clause-told : goal.returns-in-Open-clause-told
returns-in-Open-clause-told g c =
    opened_put (g.B.Book.kinds c.args.rules.now) c.args.typed.now.file c.args.budget (g.K.Sink.taken c.args.sink.now) (g.K.Sink.taken c.certify.new.sink)
    (g.K.Sink.taken c.put_opened.new.sink) (g.K.Sink.faults c.args.sink.now) (g.K.Sink.faults c.certify.new.sink)
    (g.K.Sink.faults c.put_opened.new.sink) c.put_opened.result c.in-Open.ensures.told.0 c.certify.ensures.later c.put_opened.ensures.told
