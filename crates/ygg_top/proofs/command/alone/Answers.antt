use Rattle.std.proofs.Common.{refl}
use Rattle.ygg_base.specs.declared.status.Status.TheVariants.{Done}
use Rattle.ygg_base.specs.Outside.{Rose}
use Rattle.ygg_report.specs.Putting.{NoFront}
use Rattle.ygg_top_command.proofs.Telling.{put_told}
use Rattle.ygg_top.specs.declared.help.TheConstants.{HELP, VERSION}
use Rattle.ygg_top.specs.Ending.{EndsAlone, IsDone}
use Rattle.ygg_top.proofs.command.alone.Goals as goal

pub returns-in-Help-clause-told : goal.returns-in-Help-clause-told
unfolding EndsAlone
returns-in-Help-clause-told g c =
    rw c.in-Help.is
    (put_told (IsDone HELP.now) NoFront (g.K.Sink.taken c.args.sink.now) (g.K.Sink.taken c.put_all.new.sink) ⊥
    (Rose (g.K.Sink.faults c.args.sink.now) (g.K.Sink.faults c.put_all.new.sink)) c.put_all.result Done HELP.now tt (refl, refl) c.put_all.ensures.told)

pub returns-in-Version-clause-told : goal.returns-in-Version-clause-told
unfolding EndsAlone
returns-in-Version-clause-told g c =
    rw c.in-Version.is
    (put_told (IsDone VERSION.now) NoFront (g.K.Sink.taken c.args.sink.now) (g.K.Sink.taken c.put_all-in-Version.new.sink) ⊥
    (Rose (g.K.Sink.faults c.args.sink.now) (g.K.Sink.faults c.put_all-in-Version.new.sink)) c.put_all-in-Version.result Done VERSION.now tt (refl, refl)
    c.put_all-in-Version.ensures.told)

pub returns-in-Other-clause-told : goal.returns-in-Other-clause-told
unfolding EndsAlone
returns-in-Other-clause-told g c = rw c.in-Other.is c.unnamed.ensures.told
