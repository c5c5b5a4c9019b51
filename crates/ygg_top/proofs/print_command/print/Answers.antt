use Rattle.std.proofs.Common.{List, ℕ, subst}
use Rattle.ygg_base.specs.declared.status.Status.TheVariants.{Done}
use Rattle.ygg_base.specs.Outside.{Rose}
use Rattle.ygg_top_command.specs.ygg_report.Putting.{IsPutSo, NoFront}
use Rattle.ygg_top_command.proofs.Telling.{put_told, stop_told}
use Rattle.ygg_top_command.specs.Standing.{DoesWith}
use Rattle.ygg_top.proofs.Printed.{prints, print_stop}
use Rattle.ygg_top.specs.Printing.{Prints}
use Rattle.ygg_top.proofs.print_command.print.Goals as goal

pub returns-in-Ok-printed-clause-told : goal.returns-in-Ok-printed-clause-told
returns-in-Ok-printed-clause-told g c =
    let put = subst (λ (text : List ℕ). IsPutSo (g.K.Sink.taken c.args.sink.now) (g.K.Sink.taken c.put_all.new.sink) text Done
    (Rose (g.K.Sink.faults c.args.sink.now) (g.K.Sink.faults c.put_all.new.sink)) c.put_all.result) c.as_slice.ensures c.put_all.ensures.told in
    put_told (DoesWith Prints (g.L.Library.files c.args.library.now) c.args.name.now) NoFront (g.K.Sink.taken c.args.sink.now)
    (g.K.Sink.taken c.put_all.new.sink) (Rose (g.L.Library.faults c.args.library.now) (g.L.Library.faults c.layer_file.new.library))
    (Rose (g.K.Sink.faults c.args.sink.now) (g.K.Sink.faults c.put_all.new.sink)) c.put_all.result Done c.in-Ok-printed.text tt
    (prints (g.L.Library.files c.args.library.now) c.args.name.now c.in-Ok-printed.text c.in-Ok.typed.file c.in-Ok.ensures.found c.in-Ok-printed.ensures)
    put

pub returns-in-Err-clause-told : goal.returns-in-Err-clause-told
returns-in-Err-clause-told g c =
    stop_told (DoesWith Prints (g.L.Library.files c.args.library.now) c.args.name.now) NoFront (g.K.Sink.taken c.args.sink.now)
    (g.K.Sink.taken c.end.new.sink) (Rose (g.L.Library.faults c.args.library.now) (g.L.Library.faults c.layer_file.new.library))
    (Rose (g.K.Sink.faults c.args.sink.now) (g.K.Sink.faults c.end.new.sink)) c.end.result c.in-Err.stop
    (print_stop (g.L.Library.files c.args.library.now) c.args.name.now
    (Rose (g.L.Library.faults c.args.library.now) (g.L.Library.faults c.layer_file.new.library)) c.in-Err.stop c.in-Err.ensures.none)
    c.end.ensures.told
