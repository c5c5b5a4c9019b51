use Rattle.std.proofs.Common.{suc}
use Rattle.std.proofs.lemmas.Result.{on_ok_weaker}
use Rattle.ygg_eval.specs.Ran.{CrashRan}
use Rattle.ygg_eval.proofs.OnSpec.{crash_lost}
use Rattle.ygg_eval.proofs.Outages.{lost_as}
use Rattle.ygg_eval.proofs.spec.lose.Goals as goal

pub returns-clause-lost : goal.returns-clause-lost
returns-clause-lost c =
    let file = c.args.typed.now.file in
    lost_as file (suc c.args.place) c.args.state.now c.crash.new.state c.args.power.now c.crash.new.power c.crash.result
    (on_ok_weaker c.crash.result (λ (ran : CrashRan file c.args.place c.args.state.now c.crash.new.state c.args.power.now c.crash.new.power).
    (crash_lost file c.args.place c.args.state.now c.crash.new.state c.args.power.now c.crash.new.power c.requires.there c.requires.fits ran).lost)
    c.crash.ensures)

pub returns-clause-fits : goal.returns-clause-fits
returns-clause-fits c =
    let file = c.args.typed.now.file in
    on_ok_weaker c.crash.result (λ (ran : CrashRan file c.args.place c.args.state.now c.crash.new.state c.args.power.now c.crash.new.power).
    (crash_lost file c.args.place c.args.state.now c.crash.new.state c.args.power.now c.crash.new.power c.requires.there c.requires.fits ran).fit)
    c.crash.ensures
