use Rattle.std.proofs.Common.{List, ℕ, subst}
use Rattle.ygg_base.specs.Outside.{Rose}
use Rattle.ygg_top_command.specs.Fetched.{IsBudgetless}
use Rattle.ygg_top_command.specs.Standing.{DoesWith, DoesWithin}
use Rattle.ygg_top_command.specs.Words.{IsBudget}
use Rattle.ygg_top_command.proofs.Stops.{budget_stop}
use Rattle.ygg_top_command.proofs.Telling.{stop_told, told_to}
use Rattle.ygg_top.specs.Solving.{Solves, IsCutSolving}
use Rattle.ygg_top.proofs.Solves.{within, front_within}
use Rattle.ygg_top.proofs.solving.solve_within.Goals as goal

pub returns-in-Ok-clause-told : goal.returns-in-Ok-clause-told
returns-in-Ok-clause-told g c =
    let files = g.L.Library.files c.args.library.now in
    let Does = DoesWith (Solves c.in-Ok.budget) files c.args.name.now in
    let Other = DoesWithin Solves files c.args.name.now c.args.word.now in
    let LibraryRose = Rose (g.L.Library.faults c.args.library.now) (g.L.Library.faults c.solve.new.library) in
    let SinkRose = Rose (g.K.Sink.faults c.args.sink.now) (g.K.Sink.faults c.solve.new.sink) in
    let is : IsBudget c.args.word.now c.in-Ok.budget =
    subst (λ (word : List ℕ). IsBudget word c.in-Ok.budget) c.as_slice.ensures c.in-Ok.ensures.found in
    told_to Does Other (IsCutSolving Does) (IsCutSolving Other) (g.K.Sink.taken c.args.sink.now) (g.K.Sink.taken c.solve.new.sink) LibraryRose LibraryRose
    SinkRose c.solve.result (within files c.args.name.now c.args.word.now c.in-Ok.budget is)
    (front_within files c.args.name.now c.args.word.now c.in-Ok.budget is) (λ rose. rose) c.solve.ensures.told

pub returns-in-Err-clause-told : goal.returns-in-Err-clause-told
returns-in-Err-clause-told g c =
    let files = g.L.Library.files c.args.library.now in
    let Does = DoesWithin Solves files c.args.name.now c.args.word.now in
    let LibraryRose = Rose (g.L.Library.faults c.args.library.now) (g.L.Library.faults c.args.library.now) in
    let SinkRose = Rose (g.K.Sink.faults c.args.sink.now) (g.K.Sink.faults c.end.new.sink) in
    let none : IsBudgetless c.args.word.now c.in-Err.stop =
    subst (λ (word : List ℕ). IsBudgetless word c.in-Err.stop) c.as_slice.ensures c.in-Err.ensures.none in
    stop_told Does (IsCutSolving Does) (g.K.Sink.taken c.args.sink.now) (g.K.Sink.taken c.end.new.sink) LibraryRose SinkRose c.end.result c.in-Err.stop
    (budget_stop files c.args.name.now LibraryRose Solves c.args.word.now c.in-Err.stop none) c.end.ensures.told
