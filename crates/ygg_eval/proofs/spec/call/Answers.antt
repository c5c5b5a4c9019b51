use Rattle.std.proofs.Common.{None, Some}
use Rattle.ygg_eval.proofs.OnSpec.{asks_spec, is_spec, runs_spec, spec_called}
use Rattle.ygg_eval.proofs.spec.call.Goals as goal

pub run-requires-clause-body : goal.run-requires-clause-body
run-requires-clause-body c =
    let file = c.args.typed.now.file in
    let a = asks_spec file c.args.typed.now.typed c.args.place c.args.op c.args.args.now c.requires.operation in
    runs_spec file c.args.place c.args.op c.args.args.now c.args.state.now a c.requires.fits

pub returns-in-None-clause-called : goal.returns-in-None-clause-called
returns-in-None-clause-called c =
    let file = c.args.typed.now.file in
    let a = asks_spec file c.args.typed.now.typed c.args.place c.args.op c.args.args.now c.requires.operation in
    let ran = rw c.in-None.is at (c.in_ok-run.ensures a.layer a.operation.spec (is_spec file c.args.place c.args.op c.args.args.now a)) in
    (spec_called file c.args.typed.now.typed c.args.typed.now.derivable c.args.place c.args.op c.args.args.now c.args.state.now c.run.new.state None
    c.args.power.now c.run.new.power a c.requires.fits ran).called

pub returns-in-None-clause-fits : goal.returns-in-None-clause-fits
returns-in-None-clause-fits c =
    let file = c.args.typed.now.file in
    let a = asks_spec file c.args.typed.now.typed c.args.place c.args.op c.args.args.now c.requires.operation in
    let ran = rw c.in-None.is at (c.in_ok-run.ensures a.layer a.operation.spec (is_spec file c.args.place c.args.op c.args.args.now a)) in
    (spec_called file c.args.typed.now.typed c.args.typed.now.derivable c.args.place c.args.op c.args.args.now c.args.state.now c.run.new.state None
    c.args.power.now c.run.new.power a c.requires.fits ran).fit

pub returns-in-Some-clause-called : goal.returns-in-Some-clause-called
returns-in-Some-clause-called c =
    let file = c.args.typed.now.file in
    let a = asks_spec file c.args.typed.now.typed c.args.place c.args.op c.args.args.now c.requires.operation in
    let ran = rw c.in-Some.is at (c.in_ok-run.ensures a.layer a.operation.spec (is_spec file c.args.place c.args.op c.args.args.now a)) in
    (spec_called file c.args.typed.now.typed c.args.typed.now.derivable c.args.place c.args.op c.args.args.now c.args.state.now c.run.new.state
    (Some c.in-Some.answer) c.args.power.now c.run.new.power a c.requires.fits ran).called

pub returns-in-Some-clause-fits : goal.returns-in-Some-clause-fits
returns-in-Some-clause-fits c =
    let file = c.args.typed.now.file in
    let a = asks_spec file c.args.typed.now.typed c.args.place c.args.op c.args.args.now c.requires.operation in
    let ran = rw c.in-Some.is at (c.in_ok-run.ensures a.layer a.operation.spec (is_spec file c.args.place c.args.op c.args.args.now a)) in
    (spec_called file c.args.typed.now.typed c.args.typed.now.derivable c.args.place c.args.op c.args.args.now c.args.state.now c.run.new.state
    (Some c.in-Some.answer) c.args.power.now c.run.new.power a c.requires.fits ran).fit
