use Rattle.ygg_base.specs.Outside.{Rose}
use Rattle.ygg_report.specs.Putting.{NoFront}
use Rattle.ygg_top_command.proofs.Telling.{more_told}
use Rattle.ygg_top.proofs.ByWords.{two_so}
use Rattle.ygg_top.specs.declared.words.Two.TheVariants as command
use Rattle.ygg_top.specs.Ending.{EndsTwo, LeavesTwo, NamesNone}
use Rattle.ygg_top.proofs.command.with_two.Goals as goal

pub returns-in-Verify-clause-told : goal.returns-in-Verify-clause-told
unfolding EndsTwo LeavesTwo
returns-in-Verify-clause-told g c =
    two_so (g.B.Book.kinds c.args.rules.now) (g.L.Library.files c.args.library.now) c.args.first.now c.args.second.now (g.K.Sink.taken c.args.sink.now)
    (g.K.Sink.taken c.verify_within.new.sink) (Rose (g.L.Library.faults c.args.library.now) (g.L.Library.faults c.verify_within.new.library))
    (Rose (g.K.Sink.faults c.args.sink.now) (g.K.Sink.faults c.verify_within.new.sink)) c.verify_within.result c.args.command command.Verify c.in-Verify.is
    c.verify_within.ensures.told

pub returns-in-Replay-clause-told : goal.returns-in-Replay-clause-told
unfolding EndsTwo LeavesTwo
returns-in-Replay-clause-told g c =
    two_so (g.B.Book.kinds c.args.rules.now) (g.L.Library.files c.args.library.now) c.args.first.now c.args.second.now (g.K.Sink.taken c.args.sink.now)
    (g.K.Sink.taken c.replay.new.sink) (Rose (g.L.Library.faults c.args.library.now) (g.L.Library.faults c.replay.new.library))
    (Rose (g.K.Sink.faults c.args.sink.now) (g.K.Sink.faults c.replay.new.sink)) c.replay.result c.args.command command.Replay c.in-Replay.is
    c.replay.ensures.told

pub returns-in-Explain-clause-told : goal.returns-in-Explain-clause-told
unfolding EndsTwo LeavesTwo
returns-in-Explain-clause-told g c =
    two_so (g.B.Book.kinds c.args.rules.now) (g.L.Library.files c.args.library.now) c.args.first.now c.args.second.now (g.K.Sink.taken c.args.sink.now)
    (g.K.Sink.taken c.explain.new.sink) (Rose (g.L.Library.faults c.args.library.now) (g.L.Library.faults c.explain.new.library))
    (Rose (g.K.Sink.faults c.args.sink.now) (g.K.Sink.faults c.explain.new.sink)) c.explain.result c.args.command command.Explain c.in-Explain.is
    c.explain.ensures.told

pub returns-in-Play-clause-told : goal.returns-in-Play-clause-told
unfolding EndsTwo LeavesTwo
returns-in-Play-clause-told g c =
    two_so (g.B.Book.kinds c.args.rules.now) (g.L.Library.files c.args.library.now) c.args.first.now c.args.second.now (g.K.Sink.taken c.args.sink.now)
    (g.K.Sink.taken c.play.new.sink) (Rose (g.L.Library.faults c.args.library.now) (g.L.Library.faults c.play.new.library))
    (Rose (g.K.Sink.faults c.args.sink.now) (g.K.Sink.faults c.play.new.sink)) c.play.result c.args.command command.Play c.in-Play.is
    c.play.ensures.told

pub returns-in-Solve-clause-told : goal.returns-in-Solve-clause-told
unfolding EndsTwo LeavesTwo
returns-in-Solve-clause-told g c =
    two_so (g.B.Book.kinds c.args.rules.now) (g.L.Library.files c.args.library.now) c.args.first.now c.args.second.now (g.K.Sink.taken c.args.sink.now)
    (g.K.Sink.taken c.solve_within.new.sink) (Rose (g.L.Library.faults c.args.library.now) (g.L.Library.faults c.solve_within.new.library))
    (Rose (g.K.Sink.faults c.args.sink.now) (g.K.Sink.faults c.solve_within.new.sink)) c.solve_within.result c.args.command command.Solve c.in-Solve.is
    c.solve_within.ensures.told

pub returns-in-Cnf-clause-told : goal.returns-in-Cnf-clause-told
unfolding EndsTwo LeavesTwo
returns-in-Cnf-clause-told g c =
    two_so (g.B.Book.kinds c.args.rules.now) (g.L.Library.files c.args.library.now) c.args.first.now c.args.second.now (g.K.Sink.taken c.args.sink.now)
    (g.K.Sink.taken c.cnf.new.sink) (Rose (g.L.Library.faults c.args.library.now) (g.L.Library.faults c.cnf.new.library))
    (Rose (g.K.Sink.faults c.args.sink.now) (g.K.Sink.faults c.cnf.new.sink)) c.cnf.result c.args.command command.Cnf c.in-Cnf.is
    c.cnf.ensures.told

pub returns-in-Decide-clause-told : goal.returns-in-Decide-clause-told
unfolding EndsTwo LeavesTwo
returns-in-Decide-clause-told g c =
    two_so (g.B.Book.kinds c.args.rules.now) (g.L.Library.files c.args.library.now) c.args.first.now c.args.second.now (g.K.Sink.taken c.args.sink.now)
    (g.K.Sink.taken c.decide.new.sink) (Rose (g.L.Library.faults c.args.library.now) (g.L.Library.faults c.decide.new.library))
    (Rose (g.K.Sink.faults c.args.sink.now) (g.K.Sink.faults c.decide.new.sink)) c.decide.result c.args.command command.Decide c.in-Decide.is
    c.decide.ensures.told

pub returns-in-Certify-clause-told : goal.returns-in-Certify-clause-told
unfolding EndsTwo LeavesTwo
returns-in-Certify-clause-told g c =
    two_so (g.B.Book.kinds c.args.rules.now) (g.L.Library.files c.args.library.now) c.args.first.now c.args.second.now (g.K.Sink.taken c.args.sink.now)
    (g.K.Sink.taken c.certify_within.new.sink) (Rose (g.L.Library.faults c.args.library.now) (g.L.Library.faults c.certify_within.new.library))
    (Rose (g.K.Sink.faults c.args.sink.now) (g.K.Sink.faults c.certify_within.new.sink)) c.certify_within.result c.args.command command.Certify c.in-Certify.is
    c.certify_within.ensures.told

pub returns-in-Check-clause-told : goal.returns-in-Check-clause-told
unfolding EndsTwo LeavesTwo
returns-in-Check-clause-told g c =
    two_so (g.B.Book.kinds c.args.rules.now) (g.L.Library.files c.args.library.now) c.args.first.now c.args.second.now (g.K.Sink.taken c.args.sink.now)
    (g.K.Sink.taken c.check.new.sink) (Rose (g.L.Library.faults c.args.library.now) (g.L.Library.faults c.check.new.library))
    (Rose (g.K.Sink.faults c.args.sink.now) (g.K.Sink.faults c.check.new.sink)) c.check.result c.args.command command.Check c.in-Check.is
    c.check.ensures.told

pub returns-in-Other-clause-told : goal.returns-in-Other-clause-told
unfolding EndsTwo LeavesTwo
returns-in-Other-clause-told g c =
    two_so (g.B.Book.kinds c.args.rules.now) (g.L.Library.files c.args.library.now) c.args.first.now c.args.second.now (g.K.Sink.taken c.args.sink.now)
    (g.K.Sink.taken c.unnamed.new.sink) (Rose (g.L.Library.faults c.args.library.now) (g.L.Library.faults c.args.library.now))
    (Rose (g.K.Sink.faults c.args.sink.now) (g.K.Sink.faults c.unnamed.new.sink)) c.unnamed.result c.args.command command.Other c.in-Other.is
    (more_told NamesNone NoFront (g.K.Sink.taken c.args.sink.now) (g.K.Sink.taken c.unnamed.new.sink) ⊥
    (Rose (g.L.Library.faults c.args.library.now) (g.L.Library.faults c.args.library.now))
    (Rose (g.K.Sink.faults c.args.sink.now) (g.K.Sink.faults c.unnamed.new.sink)) c.unnamed.result (λ none. absurd none) c.unnamed.ensures.told)
