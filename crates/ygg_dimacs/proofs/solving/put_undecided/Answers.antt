use Rattle.std.proofs.Common.{inr, refl, ◌∙◌, subst, List, ℕ, []}
use Rattle.ygg_base.specs.Outside.{Rose}
use Rattle.ygg_base.specs.declared.status.Status.TheVariants.{Undecided}
use Rattle.ygg_report.specs.Putting.{IsPutSo}
use Rattle.ygg_report.specs.Lines.{undecided_line}
use Rattle.ygg_cnf.proofs.Flowing.{at_once, cut_here}
use Rattle.ygg_dimacs.proofs.solving.put_undecided.Goals as goal

pub returns-in-Ok-clause-told : goal.returns-in-Ok-clause-told
returns-in-Ok-clause-told g c =
    at_once Undecided c.put_all.result
    (subst (λ (text : List ℕ). IsPutSo (g.K.Sink.taken c.args.sink.now) (g.K.Sink.taken c.put_all.new.sink) text Undecided
    (Rose (g.K.Sink.faults c.args.sink.now) (g.K.Sink.faults c.put_all.new.sink)) c.put_all.result)
    (c.as_slice.ensures ∙ c.in-Ok.ensures) c.put_all.ensures.told)

pub returns-in-Err-clause-told : goal.returns-in-Err-clause-told
returns-in-Err-clause-told g c = inr (inr (refl, cut_here (g.K.Sink.taken c.args.sink.now) [] undecided_line))
