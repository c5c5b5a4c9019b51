use Rattle.std.proofs.Common.{Ok, refl}
use Rattle.ygg_eval_expr.specs.Held.{env_of}
use Rattle.ygg_eval.specs.BlockSteps.{stands}
use Rattle.ygg_eval.proofs.Tops.{went, broke, breaks_off, broken_serves, breaks_starved, answer_can, ends_so}
use Rattle.ygg_eval.proofs.runner.Runner.block_with.Goals as goal

pub returns-in_err-flow-clause-ends : goal.returns-in_err-flow-clause-ends
returns-in_err-flow-clause-ends g c =
    let r = c.in_err-flow.ensures in λ kind variables values others ready is fit counted.
    breaks_starved g.W.Lower.means c.args.self.now.typed.now.file kind c.args.self.now.number c.args.self.now.stop c.args.block.now
    (env_of c.args.names.items) (stands c.args.lower.now c.args.power.now) ready
    c.as_slice.result.now c.from_residual.result c.calls_before-left.result
    (stands c.statements.new.lower c.statements.new.power) variables values c.args.state.now c.as_slice.ensures c.from_residual.ensures.0
    c.calls_before-left.ensures r

pub finish-requires-clause-answer : goal.finish-requires-clause-answer
finish-requires-clause-answer g c = λ e i.
    let ready = c.requires in
    answer_can g.W.Lower.means c.args.self.now.typed.now.file ready.0 c.args.self.now.number c.args.self.now.stop c.args.block.now
    (env_of c.args.names.items) (stands c.args.lower.now c.args.power.now) ready.1
    c.calls_before-left.result c.statements.new.frame.left (env_of c.statements.new.frame.names.items)
    (stands c.statements.new.lower c.statements.new.power) c.calls_before-left.ensures
    (went g.W.Lower.means c.args.self.now.typed.now.file ready.0 c.args.self.now.number c.args.self.now.stop c.args.block.now
    (env_of c.args.names.items) (stands c.args.lower.now c.args.power.now) ready.1
    c.as_slice.result.now (env_of c.statements.new.frame.names.items)
    (stands c.statements.new.lower c.statements.new.power) c.calls_before-left.result c.statements.new.frame.left c.in_ok-flow.flow
    c.in-Goes.field-0 c.as_slice.ensures c.in-Goes.is c.in_ok-flow.ensures) e i

pub returns-in-Goes-clause-ends : goal.returns-in-Goes-clause-ends
returns-in-Goes-clause-ends g c =
    let ran = c.in_ok-flow.ensures in λ kind variables values others ready is fit counted.
    ends_so g.W.Lower.means c.args.self.now.typed.now.file kind c.args.self.now.number c.args.self.now.stop c.args.block.now
    (env_of c.args.names.items) (stands c.args.lower.now c.args.power.now) ready
    c.calls_before-left.result c.statements.new.frame.left (env_of c.statements.new.frame.names.items)
    (stands c.statements.new.lower c.statements.new.power) c.calls_before-left.ensures
    (went g.W.Lower.means c.args.self.now.typed.now.file kind c.args.self.now.number c.args.self.now.stop c.args.block.now (env_of c.args.names.items)
    (stands c.args.lower.now c.args.power.now) ready
    c.as_slice.result.now (env_of c.statements.new.frame.names.items)
    (stands c.statements.new.lower c.statements.new.power) c.calls_before-left.result c.statements.new.frame.left c.in_ok-flow.flow
    c.in-Goes.field-0 c.as_slice.ensures c.in-Goes.is ran)
    c.finish.result variables values c.finish.new.state others c.args.count (stands c.finish.new.lower c.finish.new.power) is fit counted c.finish.ensures

pub returns-in-Breaks-clause-ends : goal.returns-in-Breaks-clause-ends
returns-in-Breaks-clause-ends g c =
    let ran = c.in_ok-flow.ensures in λ kind variables values others ready is fit counted.
    breaks_off g.W.Lower.means c.args.self.now.typed.now.file kind c.args.self.now.number c.args.self.now.stop c.args.block.now
    (env_of c.args.names.items) (stands c.args.lower.now c.args.power.now) ready
    (Ok c.ended_by.result) c.ended_by.result c.in-Breaks.how c.calls_before-left.result
    (stands c.statements.new.lower c.statements.new.power) variables values c.args.state.now refl c.ended_by.ensures c.calls_before-left.ensures
    (broke g.W.Lower.means c.args.self.now.typed.now.file kind c.args.self.now.number c.args.self.now.stop c.args.block.now
    (env_of c.args.names.items) (stands c.args.lower.now c.args.power.now) ready
    c.as_slice.result.now (env_of c.statements.new.frame.names.items)
    (stands c.statements.new.lower c.statements.new.power) c.calls_before-left.result c.statements.new.frame.left c.in_ok-flow.flow
    c.in-Breaks.how c.as_slice.ensures c.in-Breaks.is ran)

pub returns-in-Breaks-clause-serves : goal.returns-in-Breaks-clause-serves
returns-in-Breaks-clause-serves g c =
    let ran = c.in_ok-flow.ensures in
    broken_serves g.W.Lower.means c.args.self.now.typed.now.file c.requires.0 c.args.self.now.number c.args.self.now.stop c.args.block.now
    (env_of c.args.names.items) (stands c.args.lower.now c.args.power.now) c.requires.1
    c.ended_by.result c.in-Breaks.how c.calls_before-left.result (stands c.statements.new.lower c.statements.new.power) c.ended_by.ensures
    (broke g.W.Lower.means c.args.self.now.typed.now.file c.requires.0 c.args.self.now.number c.args.self.now.stop c.args.block.now
    (env_of c.args.names.items) (stands c.args.lower.now c.args.power.now) c.requires.1
    c.as_slice.result.now (env_of c.statements.new.frame.names.items)
    (stands c.statements.new.lower c.statements.new.power) c.calls_before-left.result c.statements.new.frame.left c.in_ok-flow.flow
    c.in-Breaks.how c.as_slice.ensures c.in-Breaks.is ran)
