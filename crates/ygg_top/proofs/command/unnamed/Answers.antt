use Rattle.std.proofs.Common.{refl, ap}
use Rattle.ygg_base.specs.Outside.{Rose}
use Rattle.ygg_report.specs.Putting.{NoFront}
use Rattle.ygg_report.specs.Lines.{refused_line}
use Rattle.ygg_top_command.specs.declared.stopping.CommandStop.TheVariants.{Refused}
use Rattle.ygg_top_command.proofs.Telling.{stop_told}
use Rattle.ygg_top.specs.Ending.{NamesNone}
use Rattle.ygg_top.proofs.command.unnamed.Goals as goal

pub returns-clause-told : goal.returns-clause-told
returns-clause-told g c =
    stop_told NamesNone NoFront (g.K.Sink.taken c.args.sink.now) (g.K.Sink.taken c.end.new.sink) ⊥
    (Rose (g.K.Sink.faults c.args.sink.now) (g.K.Sink.faults c.end.new.sink)) c.end.result (Refused c.at.result) (refl, ap refused_line c.at.ensures)
    c.end.ensures.told
