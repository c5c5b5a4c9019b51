use Rattle.std.proofs.Common.{List, ℕ, subst}
use Rattle.ygg_top.proofs.of_ygg_top_command.Telling.{stop_told}
use Rattle.ygg_top.specs.ygg_top_command.Words.{IsNumber}
use Rattle.ygg_top.specs.Verifying.{IsNumberless, most_operations}
use Rattle.ygg_top.proofs.Found.{no_number, number_told}
use Rattle.ygg_top.proofs.verdict_command.demo.Goals as goal

pub returns-in-Ok-clause-told : goal.returns-in-Ok-clause-told
returns-in-Ok-clause-told g c =
    number_told (g.B.Book.kinds c.args.rules.now) (g.K.Sink.taken c.args.sink.now) (g.K.Sink.taken c.demo_of.new.sink) _ c.demo_of.result c.args.word.now
    c.in-Ok.number (subst (λ (word : List ℕ). IsNumber most_operations word c.in-Ok.number) c.as_slice.ensures c.in-Ok.ensures.found) c.demo_of.ensures.told

pub returns-in-Err-clause-told : goal.returns-in-Err-clause-told
returns-in-Err-clause-told g c =
    stop_told _ _ (g.K.Sink.taken c.args.sink.now) (g.K.Sink.taken c.end.new.sink) _ _ c.end.result c.in-Err.stop
    (no_number (g.B.Book.kinds c.args.rules.now) c.args.word.now c.in-Err.stop
    (subst (λ (word : List ℕ). IsNumberless word c.in-Err.stop) c.as_slice.ensures c.in-Err.ensures.none)) c.end.ensures.told
