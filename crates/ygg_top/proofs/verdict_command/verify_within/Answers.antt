use Rattle.std.proofs.Common.{List, ℕ, subst}
use Rattle.ygg_top.proofs.of_ygg_top_command.Stops.{budget_stop}
use Rattle.ygg_top.proofs.of_ygg_top_command.Telling.{stop_told}
use Rattle.ygg_top.specs.ygg_top_command.Fetched.{IsBudgetless}
use Rattle.ygg_top.specs.ygg_top_command.Words.{IsBudget}
use Rattle.ygg_top.specs.Verifying.{Verifies}
use Rattle.ygg_top.proofs.Found.{within_told}
use Rattle.ygg_top.proofs.verdict_command.verify_within.Goals as goal

pub returns-in-Ok-clause-told : goal.returns-in-Ok-clause-told
returns-in-Ok-clause-told g c =
    within_told (g.B.Book.kinds c.args.rules.now) (g.L.Library.files c.args.library.now) c.args.name.now (g.K.Sink.taken c.args.sink.now)
    (g.K.Sink.taken c.verify.new.sink) _ _ c.verify.result c.args.word.now c.in-Ok.budget
    (subst (λ (word : List ℕ). IsBudget word c.in-Ok.budget) c.as_slice.ensures c.in-Ok.ensures.found) c.verify.ensures.told

pub returns-in-Err-clause-told : goal.returns-in-Err-clause-told
returns-in-Err-clause-told g c =
    stop_told _ _ (g.K.Sink.taken c.args.sink.now) (g.K.Sink.taken c.end.new.sink) _ _ c.end.result c.in-Err.stop
    (budget_stop (g.L.Library.files c.args.library.now) c.args.name.now _ (Verifies (g.B.Book.kinds c.args.rules.now)) c.args.word.now c.in-Err.stop
    (subst (λ (word : List ℕ). IsBudgetless word c.in-Err.stop) c.as_slice.ensures c.in-Err.ensures.none)) c.end.ensures.told
