use Rattle.ygg_base.specs.Outside.{Rose}
use Rattle.ygg_dimacs.specs.ygg_report.Putting.{IsCutOf}
use Rattle.ygg_dimacs.specs.Solved.{Solved}
use Rattle.ygg_top_command.specs.Standing.{DoesWith}
use Rattle.ygg_top_command.proofs.Telling.{puts_told, stop_told}
use Rattle.ygg_top.specs.Solving.{Solves, IsCutSolving}
use Rattle.ygg_top.proofs.Solves.{clauses_read, clauses_stop, front_solved}
use Rattle.ygg_top.proofs.solving.solve.Goals as goal

pub returns-in-Ok-clause-told : goal.returns-in-Ok-clause-told
returns-in-Ok-clause-told g c =
    let files = g.L.Library.files c.args.library.now in
    let Does = DoesWith (Solves c.args.budget) files c.args.name.now in
    let LibraryRose = Rose (g.L.Library.faults c.args.library.now) (g.L.Library.faults c.clauses.new.library) in
    let SinkRose = Rose (g.K.Sink.faults c.args.sink.now) (g.K.Sink.faults c.solve_cnf.new.sink) in
    let Ends = Solved c.in-Ok.cnf c.args.budget in
    puts_told Does (IsCutSolving Does) (g.K.Sink.taken c.args.sink.now) (g.K.Sink.taken c.solve_cnf.new.sink) LibraryRose SinkRose c.solve_cnf.result Ends
    (IsCutOf Ends) (clauses_read files c.args.name.now c.args.budget c.in-Ok.cnf c.in-Ok.ensures.found)
    (front_solved files c.args.name.now c.args.budget c.in-Ok.cnf c.requires c.in-Ok.ensures.numbered c.in-Ok.ensures.found) c.solve_cnf.ensures.told

pub returns-in-Err-clause-told : goal.returns-in-Err-clause-told
returns-in-Err-clause-told g c =
    let files = g.L.Library.files c.args.library.now in
    let Does = DoesWith (Solves c.args.budget) files c.args.name.now in
    let LibraryRose = Rose (g.L.Library.faults c.args.library.now) (g.L.Library.faults c.clauses.new.library) in
    let SinkRose = Rose (g.K.Sink.faults c.args.sink.now) (g.K.Sink.faults c.end.new.sink) in
    stop_told Does (IsCutSolving Does) (g.K.Sink.taken c.args.sink.now) (g.K.Sink.taken c.end.new.sink) LibraryRose SinkRose c.end.result c.in-Err.stop
    (clauses_stop files c.args.name.now LibraryRose c.args.budget c.in-Err.stop c.in-Err.ensures.none) c.end.ensures.told
