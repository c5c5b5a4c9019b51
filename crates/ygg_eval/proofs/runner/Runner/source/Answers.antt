use Rattle.std.proofs.Common.{List, Result, ap, sym, ◌∙◌, subst}
use Rattle.ygg_list.specs.declared.memory.NoMemory.{NoMemory}
use Rattle.ygg_syntax.specs.declared.tree.Expr.{Expr}
use Rattle.ygg_value.specs.declared.row.Value.{Value}
use Rattle.ygg_value.specs.Values.{digit}
use Rattle.ygg_eval_expr.specs.ygg_disk.declared.power.Power.{Power}
use Rattle.ygg_eval_expr.specs.ygg_disk.declared.power.Picks.{Picks}
use Rattle.ygg_eval_expr.specs.ygg_meaning.Progress.{from_source}
use Rattle.ygg_eval_expr.specs.Held.{env_of}
use Rattle.ygg_eval.specs.declared.flow.Flow.{Flow}
use Rattle.ygg_eval.specs.BlockSteps.{stands, Front, Ran}
use Rattle.ygg_eval.specs.Ready.{eval_in, CanCall, GivesIn}
use Rattle.ygg_eval.proofs.Leading.{starved_here}
use Rattle.ygg_eval.proofs.Fitting.{given_value, given_choice, ask_evaluates, ask_calls}
use Rattle.ygg_eval.proofs.Sourcing.{ran_value, ran_choice, ran_answer, given_answer}
use Rattle.ygg_eval.proofs.runner.Runner.source.Goals as goal

pub returns-in_err-value-in-Value-clause-ran : goal.returns-in_err-value-in-Value-clause-ran
returns-in_err-value-in-Value-clause-ran g c next =
    let r = c.args.self.now in
    starved_here g.W.Lower.means r.typed.now.file r.number r.stop
    (λ answers. from_source (eval_in r.typed.now.file) c.args.source.now (env_of c.args.names.now) answers next) next
    (stands c.args.lower.now c.args.power.now) c.args.left.now c.from_residual.result c.from_residual.ensures.0

pub returns-in_ok-value-in-Value-clause-given : goal.returns-in_ok-value-in-Value-clause-given
returns-in_ok-value-in-Value-clause-given g c =
    given_value c.args.self.now.typed.now.file c.args.self.now.number c.args.source.now c.in-Value.e
    (env_of c.args.names.now) c.in_ok-value-in-Value.value c.in-Value.is c.in_ok-value-in-Value.ensures

pub returns-in-Choose-clause-ran : goal.returns-in-Choose-clause-ran
returns-in-Choose-clause-ran g c next =
    let r = c.args.self.now in
    let power = c.args.power.now in
    let with_picks : Picks → Power = λ p. record power { picks = p } in
    ran_choice g.W.Lower.means r.typed.now.file r.number r.stop c.args.source.now c.in-Choose.field-0 (env_of c.args.names.now) c.args.lower.now power
    (with_picks c.take.new.self) c.args.left.now c.digit.result c.in-Choose.is
    (c.digit.ensures ∙ ap digit c.peek-pick.ensures) (ap with_picks c.take.ensures) next

pub returns-in-Call-clause-given : goal.returns-in-Call-clause-given
returns-in-Call-clause-given g c =
    let r = c.args.self.now in
    subst (λ (x : Result (Flow Value) NoMemory). GivesIn r.typed.now.file r.number c.args.source.now (env_of c.args.names.now) x) (sym c.value_result.ensures)
    (given_answer g.W.Lower.means r.typed.now.file r.number r.stop c.args.source.now c.in-Call.field-0 c.in-Call.f c.in-Call.es c.as_slice.result.now
    (env_of c.args.names.now) (stands c.args.lower.now c.args.power.now) (stands c.call.new.lower c.call.new.power)
    c.args.left.now c.call.new.left c.call.result c.in-Call.is c.as_slice.ensures c.call.ensures)

pub returns-in-Call-clause-ran : goal.returns-in-Call-clause-ran
returns-in-Call-clause-ran g c next =
    let r = c.args.self.now in
    let front : Front = λ answers. from_source (eval_in r.typed.now.file) c.args.source.now (env_of c.args.names.now) answers next in
    subst (λ (x : Result (Flow Value) NoMemory). Ran g.W.Lower.means r.typed.now.file r.number r.stop front next
    (stands c.args.lower.now c.args.power.now) c.args.left.now x (stands c.call.new.lower c.call.new.power) c.call.new.left)
    (sym c.value_result.ensures)
    (ran_answer g.W.Lower.means r.typed.now.file r.number r.stop c.args.source.now c.in-Call.field-0 c.in-Call.f c.in-Call.es c.as_slice.result.now
    (env_of c.args.names.now) (stands c.args.lower.now c.args.power.now) (stands c.call.new.lower c.call.new.power)
    c.args.left.now c.call.new.left c.call.result c.in-Call.is c.as_slice.ensures c.call.ensures next)

pub value-requires : goal.value-requires
value-requires g c =
    let r = c.args.self.now in
    ask_evaluates g.W.Lower.means r.typed.now.file r.number r.stop c.args.source.now c.in-Value.e (env_of c.args.names.now)
    (stands c.args.lower.now c.args.power.now) c.in-Value.is c.requires

pub call-requires : goal.call-requires
call-requires g c =
    let r = c.args.self.now in
    let env = env_of c.args.names.now in
    let at = stands c.args.lower.now c.args.power.now in
    subst (λ (es : List Expr). CanCall g.W.Lower.means r.typed.now.file r.number r.stop c.in-Call.f es env at) (sym c.as_slice.ensures)
    (ask_calls g.W.Lower.means r.typed.now.file r.number r.stop c.args.source.now c.in-Call.field-0 c.in-Call.f c.in-Call.es env at c.in-Call.is c.requires)

pub returns-in_ok-value-in-Value-clause-ran : goal.returns-in_ok-value-in-Value-clause-ran
returns-in_ok-value-in-Value-clause-ran g c =
    let r = c.args.self.now in
    ran_value g.W.Lower.means r.typed.now.file r.number r.stop c.args.source.now c.in-Value.e (env_of c.args.names.now)
    (stands c.args.lower.now c.args.power.now) c.args.left.now c.in_ok-value-in-Value.value c.in-Value.is c.in_ok-value-in-Value.ensures

pub returns-in-Choose-clause-given : goal.returns-in-Choose-clause-given
returns-in-Choose-clause-given g c =
    given_choice c.args.self.now.typed.now.file c.args.self.now.number c.args.source.now c.in-Choose.field-0 (env_of c.args.names.now) c.peek-pick.result
    c.digit.result c.in-Choose.is c.digit.ensures
