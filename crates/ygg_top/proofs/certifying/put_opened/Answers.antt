use Rattle.std.proofs.Common.{List, ℕ, inl, inr, refl, subst}
use Rattle.ygg_base.specs.Outside.{Rose}
use Rattle.ygg_certify.specs.ygg_report.Putting.{IsPutSo}
use Rattle.ygg_top.proofs.certifying.put_opened.Goals as goal

pub returns-in-Ok-clause-told : goal.returns-in-Ok-clause-told
returns-in-Ok-clause-told g c =
    let put = subst (λ (text : List ℕ). IsPutSo (g.K.Sink.taken c.args.sink.now) (g.K.Sink.taken c.put_all.new.sink) text c.in-Ok.status
    (Rose (g.K.Sink.faults c.args.sink.now) (g.K.Sink.faults c.put_all.new.sink)) c.put_all.result) c.as_slice.ensures c.put_all.ensures.told in
    inl (c.in-Ok.status, c.in-Ok.text, c.in-Ok.ensures, put)

pub returns-in-Err-clause-told : goal.returns-in-Err-clause-told
returns-in-Err-clause-told g c = inr (refl, refl)
