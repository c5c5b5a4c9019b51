use Rattle.std.proofs.Common.{sym, ◌∙◌}
use Rattle.ygg_eval.specs.Ran.{Broken}
use Rattle.ygg_eval.proofs.Stepping.{one_pick}
use Rattle.ygg_eval.proofs.OnSpec.{asks_spec, is_spec, runs_spec, runs_on_crash, broken_by_block, broken_after, broken_before, at_operation}
use Rattle.ygg_eval.proofs.spec.cut.Goals as goal

pub run-requires-clause-body : goal.run-requires-clause-body
run-requires-clause-body c =
    let file = c.args.typed.now.file in
    let a = asks_spec file c.args.typed.now.typed c.args.place c.args.op c.args.args.now c.requires.operation in
    runs_on_crash file c.args.place c.args.op c.args.args.now c.args.state.now a
    (sym c.if-has_on_crash.true ∙ c.has_on_crash.ensures a.layer a.operation a.here a.is) c.requires.fits

pub returns-then-has_on_crash : goal.returns-then-has_on_crash
returns-then-has_on_crash c =
    let file = c.args.typed.now.file in
    let a = asks_spec file c.args.typed.now.typed c.args.place c.args.op c.args.args.now c.requires.operation in
    at_operation file c.args.place c.args.op c.args.args.now a
    (λ l o. Broken file c.args.place l o c.args.args.now c.args.state.now c.run.new.state c.args.power.now c.run.new.power)
    (broken_by_block file c.args.place c.args.op c.args.args.now c.args.state.now c.run.new.state c.in_ok-run.field-0 c.args.power.now c.run.new.power a
    (sym c.if-has_on_crash.true ∙ c.has_on_crash.ensures a.layer a.operation a.here a.is) (λ b is. c.in_ok-run.ensures a.layer b is))

pub run-requires-then-happened-clause-body : goal.run-requires-then-happened-clause-body
run-requires-then-happened-clause-body c =
    let file = c.args.typed.now.file in
    let a = asks_spec file c.args.typed.now.typed c.args.place c.args.op c.args.args.now c.requires.operation in
    runs_spec file c.args.place c.args.op c.args.args.now c.args.state.now a c.requires.fits

pub returns-in_ok-run-2 : goal.returns-in_ok-run-2
returns-in_ok-run-2 c =
    let file = c.args.typed.now.file in
    let a = asks_spec file c.args.typed.now.typed c.args.place c.args.op c.args.args.now c.requires.operation in
    let power = c.args.power.now in
    at_operation file c.args.place c.args.op c.args.args.now a
    (λ l o. Broken file c.args.place l o c.args.args.now c.args.state.now c.run-then-happened.new.state power c.run-then-happened.new.power)
    (broken_after file c.args.place c.args.op c.args.args.now c.args.state.now c.run-then-happened.new.state c.in_ok-run-2.field-0 power
    (record power { picks = c.take.new.self }) c.run-then-happened.new.power a
    (sym c.if-has_on_crash.false ∙ c.has_on_crash.ensures a.layer a.operation a.here a.is)
    (one_pick _ power c.take.new.self (sym c.if-happened.true ∙ c.peek-happened.ensures) c.take.ensures)
    (c.in_ok-run-2.ensures a.layer a.operation.spec (is_spec file c.args.place c.args.op c.args.args.now a)))

pub returns-else-happened : goal.returns-else-happened
returns-else-happened c =
    let file = c.args.typed.now.file in
    let a = asks_spec file c.args.typed.now.typed c.args.place c.args.op c.args.args.now c.requires.operation in
    let power = c.args.power.now in
    at_operation file c.args.place c.args.op c.args.args.now a
    (λ l o. Broken file c.args.place l o c.args.args.now c.args.state.now c.args.state.now power (record power { picks = c.take.new.self }))
    (broken_before file c.args.place c.args.op c.args.args.now c.args.state.now power (record power { picks = c.take.new.self }) a
    (sym c.if-has_on_crash.false ∙ c.has_on_crash.ensures a.layer a.operation a.here a.is) c.requires.fits
    (one_pick _ power c.take.new.self (sym c.if-happened.false ∙ c.peek-happened.ensures) c.take.ensures))
