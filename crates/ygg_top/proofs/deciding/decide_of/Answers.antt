use Rattle.std.proofs.Common.{inr}
use Rattle.ygg_base.specs.Outside.{Rose}
use Rattle.ygg_report.specs.Putting.{NoFront}
use Rattle.ygg_top_command.specs.declared.stopping.CommandStop.TheVariants.{Refused}
use Rattle.ygg_top_command.proofs.Telling.{stop_told, told_to}
use Rattle.ygg_top.specs.Deciding.{Decides, IsDecision}
use Rattle.ygg_top.proofs.Asked.{has_name, has_none}
use Rattle.ygg_top.proofs.Decides.{unnamed}
use Rattle.ygg_top.proofs.deciding.decide_of.Goals as goal

pub put_decision-requires-clause-named : goal.put_decision-requires-clause-named
put_decision-requires-clause-named g c =
    has_name c.args.typed.now.file c.file.result.now c.args.name.now c.is_obligation.result c.file.ensures.same c.is_obligation.ensures c.if-is_obligation.true

pub returns-then-is_obligation-clause-told : goal.returns-then-is_obligation-clause-told
returns-then-is_obligation-clause-told g c =
    let kinds = g.B.Book.kinds c.args.rules.now in
    let f = c.args.typed.now.file in
    let name = c.args.name.now in
    let SinkRose = Rose (g.K.Sink.faults c.args.sink.now) (g.K.Sink.faults c.put_decision.new.sink) in
    told_to (IsDecision kinds f c.args.budget name) (Decides kinds f c.args.budget name) NoFront NoFront (g.K.Sink.taken c.args.sink.now)
    (g.K.Sink.taken c.put_decision.new.sink) ⊥ ⊥ SinkRose c.put_decision.result (λ status text does. inr does) (λ front none. none) (λ none. none)
    c.put_decision.ensures.told

pub returns-clause-told : goal.returns-clause-told
returns-clause-told g c =
    let kinds = g.B.Book.kinds c.args.rules.now in
    let f = c.args.typed.now.file in
    let name = c.args.name.now in
    stop_told (Decides kinds f c.args.budget name) NoFront (g.K.Sink.taken c.args.sink.now) (g.K.Sink.taken c.end.new.sink) ⊥
    (Rose (g.K.Sink.faults c.args.sink.now) (g.K.Sink.faults c.end.new.sink)) c.end.result (Refused c.at.result)
    (unnamed kinds f c.args.budget name c.at.result
    (has_none f c.file.result.now name c.is_obligation.result c.file.ensures.same c.is_obligation.ensures c.if-is_obligation.false) c.at.ensures)
    c.end.ensures.told
