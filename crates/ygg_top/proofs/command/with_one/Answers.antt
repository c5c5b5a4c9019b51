use Rattle.ygg_base.specs.Outside.{Rose}
use Rattle.ygg_report.specs.Putting.{NoFront}
use Rattle.ygg_top_command.proofs.Telling.{more_told}
use Rattle.ygg_top.specs.Verifying.{Demos}
use Rattle.ygg_top.proofs.ByWords.{one_so}
use Rattle.ygg_top.specs.declared.words.One.TheVariants as command
use Rattle.ygg_top.specs.Ending.{EndsOne, LeavesOne, NamesNone}
use Rattle.ygg_top.proofs.command.with_one.Goals as goal

pub returns-in-Verify-clause-told : goal.returns-in-Verify-clause-told
unfolding EndsOne LeavesOne
returns-in-Verify-clause-told g c =
    one_so (g.B.Book.kinds c.args.rules.now) (g.L.Library.files c.args.library.now) c.args.word.now (g.K.Sink.taken c.args.sink.now)
    (g.K.Sink.taken c.verify.new.sink) (Rose (g.L.Library.faults c.args.library.now) (g.L.Library.faults c.verify.new.library))
    (Rose (g.K.Sink.faults c.args.sink.now) (g.K.Sink.faults c.verify.new.sink)) c.verify.result c.args.command command.Verify c.in-Verify.is
    c.verify.ensures.told

pub returns-in-Print-clause-told : goal.returns-in-Print-clause-told
unfolding EndsOne LeavesOne
returns-in-Print-clause-told g c =
    one_so (g.B.Book.kinds c.args.rules.now) (g.L.Library.files c.args.library.now) c.args.word.now (g.K.Sink.taken c.args.sink.now)
    (g.K.Sink.taken c.print.new.sink) (Rose (g.L.Library.faults c.args.library.now) (g.L.Library.faults c.print.new.library))
    (Rose (g.K.Sink.faults c.args.sink.now) (g.K.Sink.faults c.print.new.sink)) c.print.result c.args.command command.Print c.in-Print.is
    c.print.ensures.told

pub returns-in-Demo-clause-told : goal.returns-in-Demo-clause-told
unfolding EndsOne LeavesOne
returns-in-Demo-clause-told g c =
    one_so (g.B.Book.kinds c.args.rules.now) (g.L.Library.files c.args.library.now) c.args.word.now (g.K.Sink.taken c.args.sink.now)
    (g.K.Sink.taken c.demo.new.sink) (Rose (g.L.Library.faults c.args.library.now) (g.L.Library.faults c.args.library.now))
    (Rose (g.K.Sink.faults c.args.sink.now) (g.K.Sink.faults c.demo.new.sink)) c.demo.result c.args.command command.Demo c.in-Demo.is
    (more_told (Demos (g.B.Book.kinds c.args.rules.now) c.args.word.now) NoFront (g.K.Sink.taken c.args.sink.now) (g.K.Sink.taken c.demo.new.sink) ⊥
    (Rose (g.L.Library.faults c.args.library.now) (g.L.Library.faults c.args.library.now))
    (Rose (g.K.Sink.faults c.args.sink.now) (g.K.Sink.faults c.demo.new.sink)) c.demo.result (λ none. absurd none) c.demo.ensures.told)

pub returns-in-Solve-clause-told : goal.returns-in-Solve-clause-told
unfolding EndsOne LeavesOne
returns-in-Solve-clause-told g c =
    one_so (g.B.Book.kinds c.args.rules.now) (g.L.Library.files c.args.library.now) c.args.word.now (g.K.Sink.taken c.args.sink.now)
    (g.K.Sink.taken c.solve.new.sink) (Rose (g.L.Library.faults c.args.library.now) (g.L.Library.faults c.solve.new.library))
    (Rose (g.K.Sink.faults c.args.sink.now) (g.K.Sink.faults c.solve.new.sink)) c.solve.result c.args.command command.Solve c.in-Solve.is
    c.solve.ensures.told

pub returns-in-Certify-clause-told : goal.returns-in-Certify-clause-told
unfolding EndsOne LeavesOne
returns-in-Certify-clause-told g c =
    one_so (g.B.Book.kinds c.args.rules.now) (g.L.Library.files c.args.library.now) c.args.word.now (g.K.Sink.taken c.args.sink.now)
    (g.K.Sink.taken c.certify.new.sink) (Rose (g.L.Library.faults c.args.library.now) (g.L.Library.faults c.certify.new.library))
    (Rose (g.K.Sink.faults c.args.sink.now) (g.K.Sink.faults c.certify.new.sink)) c.certify.result c.args.command command.Certify c.in-Certify.is
    c.certify.ensures.told

pub returns-in-Other-clause-told : goal.returns-in-Other-clause-told
unfolding EndsOne LeavesOne
returns-in-Other-clause-told g c =
    one_so (g.B.Book.kinds c.args.rules.now) (g.L.Library.files c.args.library.now) c.args.word.now (g.K.Sink.taken c.args.sink.now)
    (g.K.Sink.taken c.unnamed.new.sink) (Rose (g.L.Library.faults c.args.library.now) (g.L.Library.faults c.args.library.now))
    (Rose (g.K.Sink.faults c.args.sink.now) (g.K.Sink.faults c.unnamed.new.sink)) c.unnamed.result c.args.command command.Other c.in-Other.is
    (more_told NamesNone NoFront (g.K.Sink.taken c.args.sink.now) (g.K.Sink.taken c.unnamed.new.sink) ⊥
    (Rose (g.L.Library.faults c.args.library.now) (g.L.Library.faults c.args.library.now))
    (Rose (g.K.Sink.faults c.args.sink.now) (g.K.Sink.faults c.unnamed.new.sink)) c.unnamed.result (λ none. absurd none) c.unnamed.ensures.told)
