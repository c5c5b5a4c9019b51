use Rattle.ygg_base.specs.Outside.{Rose}
use Rattle.ygg_report.specs.Putting.{NoFront}
use Rattle.ygg_top_command.proofs.Telling.{more_told}
use Rattle.ygg_top.proofs.ByWords.{three_so}
use Rattle.ygg_top.specs.declared.words.Three.TheVariants as command
use Rattle.ygg_top.specs.Ending.{EndsThree, NamesNone}
use Rattle.ygg_top.proofs.command.with_three.Goals as goal

pub returns-in-Decide-clause-told : goal.returns-in-Decide-clause-told
unfolding EndsThree
returns-in-Decide-clause-told g c =
    three_so (g.B.Book.kinds c.args.rules.now) (g.L.Library.files c.args.library.now) c.args.first.now c.args.second.now c.args.third.now
    (g.K.Sink.taken c.args.sink.now) (g.K.Sink.taken c.decide_within.new.sink)
    (Rose (g.L.Library.faults c.args.library.now) (g.L.Library.faults c.decide_within.new.library))
    (Rose (g.K.Sink.faults c.args.sink.now) (g.K.Sink.faults c.decide_within.new.sink)) c.decide_within.result c.args.command command.Decide c.in-Decide.is
    c.decide_within.ensures.told

pub returns-in-Other-clause-told : goal.returns-in-Other-clause-told
unfolding EndsThree
returns-in-Other-clause-told g c =
    three_so (g.B.Book.kinds c.args.rules.now) (g.L.Library.files c.args.library.now) c.args.first.now c.args.second.now c.args.third.now
    (g.K.Sink.taken c.args.sink.now) (g.K.Sink.taken c.unnamed.new.sink)
    (Rose (g.L.Library.faults c.args.library.now) (g.L.Library.faults c.args.library.now))
    (Rose (g.K.Sink.faults c.args.sink.now) (g.K.Sink.faults c.unnamed.new.sink)) c.unnamed.result c.args.command command.Other c.in-Other.is
    (more_told NamesNone NoFront (g.K.Sink.taken c.args.sink.now) (g.K.Sink.taken c.unnamed.new.sink) ⊥
    (Rose (g.L.Library.faults c.args.library.now) (g.L.Library.faults c.args.library.now))
    (Rose (g.K.Sink.faults c.args.sink.now) (g.K.Sink.faults c.unnamed.new.sink)) c.unnamed.result (λ none. absurd none) c.unnamed.ensures.told)
