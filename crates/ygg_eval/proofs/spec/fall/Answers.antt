use Rattle.std.proofs.Common.{suc}
use Rattle.std.proofs.lemmas.Result.{on_ok_weaker}
use Rattle.ygg_eval.specs.Ran.{CrashRan}
use Rattle.ygg_eval.proofs.OnSpec.{asks_spec, fits_at, crash_fell}
use Rattle.ygg_eval.proofs.Outages.{fell_as, fell_without}
use Rattle.ygg_eval.proofs.spec.fall.Goals as goal

pub crash-requires-clause-fits : goal.crash-requires-clause-fits
crash-requires-clause-fits c =
    let file = c.args.typed.now.file in
    let a = asks_spec file c.args.typed.now.typed c.args.place c.args.op c.args.args.now c.requires.operation in
    fits_at file c.args.place a.layer c.cut.new.state a.here (c.in_ok-cut.ensures a.layer a.operation a.here a.is).fit

pub returns-clause-fell : goal.returns-clause-fell
returns-clause-fell c =
    let file = c.args.typed.now.file in
    let a = asks_spec file c.args.typed.now.typed c.args.place c.args.op c.args.args.now c.requires.operation in
    fell_as file (suc c.args.place) c.args.state.now c.crash.new.state c.args.power.now c.crash.new.power c.args.op c.args.args.now
    c.crash.result c.requires.operation
    (on_ok_weaker c.crash.result (λ (ran : CrashRan file c.args.place c.cut.new.state c.crash.new.state c.cut.new.power c.crash.new.power).
    (crash_fell file c.args.place c.args.op c.args.args.now c.args.state.now c.cut.new.state c.crash.new.state c.args.power.now c.cut.new.power
    c.crash.new.power a c.requires.fits c.in_ok-cut.ensures ran).fell) c.crash.ensures)

pub returns-in_err-cut-clause-fell : goal.returns-in_err-cut-clause-fell
returns-in_err-cut-clause-fell c =
    fell_without c.args.typed.now.file (suc c.args.place) c.args.state.now c.cut.new.state c.args.power.now c.cut.new.power c.args.op c.args.args.now
    c.from_residual.result c.requires.operation c.from_residual.ensures.0

pub returns-clause-fits : goal.returns-clause-fits
returns-clause-fits c =
    let file = c.args.typed.now.file in
    let a = asks_spec file c.args.typed.now.typed c.args.place c.args.op c.args.args.now c.requires.operation in
    on_ok_weaker c.crash.result (λ (ran : CrashRan file c.args.place c.cut.new.state c.crash.new.state c.cut.new.power c.crash.new.power).
    (crash_fell file c.args.place c.args.op c.args.args.now c.args.state.now c.cut.new.state c.crash.new.state c.args.power.now c.cut.new.power
    c.crash.new.power a c.requires.fits c.in_ok-cut.ensures ran).fit) c.crash.ensures
