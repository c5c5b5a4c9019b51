use Rattle.std.proofs.Common.{List, ℕ, subst}
use Rattle.ygg_base.specs.Outside.{Rose}
use Rattle.ygg_report.specs.Putting.{NoFront}
use Rattle.ygg_top_command.specs.Words.{IsBudget}
use Rattle.ygg_top_command.proofs.Telling.{stop_told, told_to}
use Rattle.ygg_top.specs.Deciding.{DecidesNamed, DecidesWithin, IsThirdBudgetless}
use Rattle.ygg_top.proofs.Decides.{budget_read, budget_stop}
use Rattle.ygg_top.proofs.deciding.decide_within.Goals as goal

pub returns-in-Ok-clause-told : goal.returns-in-Ok-clause-told
returns-in-Ok-clause-told g c =
    let kinds = g.B.Book.kinds c.args.rules.now in
    let files = g.L.Library.files c.args.library.now in
    let file = c.args.file.now in
    let name = c.args.name.now in
    let LibraryRose = Rose (g.L.Library.faults c.args.library.now) (g.L.Library.faults c.decide.new.library) in
    let SinkRose = Rose (g.K.Sink.faults c.args.sink.now) (g.K.Sink.faults c.decide.new.sink) in
    told_to (DecidesNamed kinds c.in-Ok.budget files file name) (DecidesWithin kinds files file name c.args.word.now) NoFront NoFront
    (g.K.Sink.taken c.args.sink.now) (g.K.Sink.taken c.decide.new.sink) LibraryRose LibraryRose SinkRose c.decide.result
    (budget_read kinds files file name c.args.word.now c.in-Ok.budget
    (subst (λ (word : List ℕ). IsBudget word c.in-Ok.budget) c.as_slice.ensures c.in-Ok.ensures.found)) (λ front none. none) (λ rose. rose)
    c.decide.ensures.told

pub returns-in-Err-clause-told : goal.returns-in-Err-clause-told
returns-in-Err-clause-told g c =
    let kinds = g.B.Book.kinds c.args.rules.now in
    let files = g.L.Library.files c.args.library.now in
    let LibraryRose = Rose (g.L.Library.faults c.args.library.now) (g.L.Library.faults c.args.library.now) in
    stop_told (DecidesWithin kinds files c.args.file.now c.args.name.now c.args.word.now) NoFront (g.K.Sink.taken c.args.sink.now)
    (g.K.Sink.taken c.end.new.sink) LibraryRose (Rose (g.K.Sink.faults c.args.sink.now) (g.K.Sink.faults c.end.new.sink)) c.end.result c.in-Err.stop
    (budget_stop kinds files c.args.file.now c.args.name.now c.args.word.now LibraryRose c.in-Err.stop
    (subst (λ (word : List ℕ). IsThirdBudgetless word c.in-Err.stop) c.as_slice.ensures c.in-Err.ensures.none)) c.end.ensures.told
