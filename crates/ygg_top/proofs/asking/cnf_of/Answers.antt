use Rattle.ygg_base.specs.Outside.{Rose}
use Rattle.ygg_top_command.specs.ygg_report.Putting.{IsCutOf}
use Rattle.ygg_top.specs.Printed.{Printed}
use Rattle.ygg_top_command.specs.declared.stopping.CommandStop.TheVariants.{Refused}
use Rattle.ygg_top_command.proofs.Telling.{puts_told, stop_told}
use Rattle.ygg_top.specs.Asking.{Asks, IsCutAsking}
use Rattle.ygg_top.proofs.Asked.{has_name, has_none, asked, front_asked, unnamed}
use Rattle.ygg_top.proofs.asking.cnf_of.Goals as goal

pub returns-then-is_obligation-clause-told : goal.returns-then-is_obligation-clause-told
returns-then-is_obligation-clause-told g c =
    let kinds = g.B.Book.kinds c.args.rules.now in
    let f = c.args.typed.now.file in
    let name = c.args.name.now in
    let Ends = Printed kinds f name in
    let Does = Asks kinds f name in
    puts_told Does (IsCutAsking kinds Does) (g.K.Sink.taken c.args.sink.now) (g.K.Sink.taken c.put_obligation.new.sink) ⊥
    (Rose (g.K.Sink.faults c.args.sink.now) (g.K.Sink.faults c.put_obligation.new.sink)) c.put_obligation.result Ends (IsCutOf Ends) (asked kinds f name)
    (front_asked kinds f name
    (has_name f c.file.result.now name c.is_obligation.result c.file.ensures.same c.is_obligation.ensures c.if-is_obligation.true))
    c.put_obligation.ensures.told

pub returns-clause-told : goal.returns-clause-told
returns-clause-told g c =
    let kinds = g.B.Book.kinds c.args.rules.now in
    let f = c.args.typed.now.file in
    let name = c.args.name.now in
    let Does = Asks kinds f name in
    stop_told Does (IsCutAsking kinds Does) (g.K.Sink.taken c.args.sink.now) (g.K.Sink.taken c.end.new.sink) ⊥
    (Rose (g.K.Sink.faults c.args.sink.now) (g.K.Sink.faults c.end.new.sink)) c.end.result (Refused c.at.result)
    (unnamed kinds f name c.at.result
    (has_none f c.file.result.now name c.is_obligation.result c.file.ensures.same c.is_obligation.ensures c.if-is_obligation.false) c.at.ensures)
    c.end.ensures.told
