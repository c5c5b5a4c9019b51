use Rattle.std.proofs.Common.{[], ◌∷◌, ◌++◌, List, Ok, Err, sym, subst}
use Rattle.ygg_value.specs.declared.row.Value.{Value}
use Rattle.ygg_eval_expr.specs.ygg_meaning.Environments.{Env}
use Rattle.ygg_eval_expr.specs.ygg_meaning.Progress.{from_source}
use Rattle.ygg_eval_expr.specs.declared.held.Binding.{Binding}
use Rattle.ygg_eval_expr.specs.Held.{env_of}
use Rattle.ygg_eval.specs.declared.flow.Flow.{Flow}
use Rattle.ygg_eval.specs.BlockSteps.{Front, goes_on, stands, Becomes, Ran}
use Rattle.ygg_eval.specs.Ready.{eval_in}
use Rattle.ygg_eval.proofs.Leading.{starved_as, starved_then, broken_as}
use Rattle.ygg_eval.proofs.runner.Runner.bound.Goals as goal

pub returns-in_err-value : goal.returns-in_err-value
returns-in_err-value g c =
    let r = c.args.self.now in
    let env = env_of c.args.frame.now.names.items in
    let next : Value → Front = λ v. goes_on (env ++ (c.args.x.now.text, v) ∷ []) in
    let heard = subst (λ (bs : List Binding). (next : Value → Front) →
    Ran g.W.Lower.means r.typed.now.file r.number r.stop (λ answers. from_source (eval_in r.typed.now.file) c.args.from.now (env_of bs) answers next) next
    (stands c.args.lower.now c.args.power.now) c.args.frame.now.left (Err c.in_err-value.field-0.0)
    (stands c.source.new.lower c.source.new.power) c.source.new.left) c.as_slice.ensures.value c.in_err-value.ensures.ran in
    starved_as g.W.Lower.means r.typed.now.file r.number r.stop
    (λ answers. from_source (eval_in r.typed.now.file) c.args.from.now env answers next) next _ (stands c.args.lower.now c.args.power.now)
    (stands c.source.new.lower c.source.new.power)
    c.args.frame.now.left _ c.in_err-value.field-0.0 c.from_residual.result (heard next) c.from_residual.ensures.0

pub returns-in_err-name_value-in-Goes : goal.returns-in_err-name_value-in-Goes
returns-in_err-name_value-in-Goes g c =
    let r = c.args.self.now in
    let env = env_of c.args.frame.now.names.items in
    let next : Value → Front = λ v. goes_on (env ++ (c.args.x.now.text, v) ∷ []) in
    let front : Front = λ answers. from_source (eval_in r.typed.now.file) c.args.from.now env answers next in
    let from = stands c.args.lower.now c.args.power.now in
    let to = stands c.source.new.lower c.source.new.power in
    let heard = subst (λ (bs : List Binding). (next : Value → Front) →
    Ran g.W.Lower.means r.typed.now.file r.number r.stop (λ answers. from_source (eval_in r.typed.now.file) c.args.from.now (env_of bs) answers next) next
    from c.args.frame.now.left (Ok c.in_ok-value.field-0) to c.source.new.left) c.as_slice.ensures.value c.in_ok-value.ensures.ran in
    let came = subst (λ (w : Flow Value). Ran g.W.Lower.means r.typed.now.file r.number r.stop front next from c.args.frame.now.left
    (Ok w) to c.source.new.left) c.in-Goes.is (heard next) in
    starved_then g.W.Lower.means r.typed.now.file r.number r.stop front
    (next c.in-Goes.value) _ from to c.args.frame.now.left c.source.new.left c.from_residual-in_err-name_value-in-Goes.result came
    c.from_residual-in_err-name_value-in-Goes.ensures.0

pub returns-in_ok-name_value-in-Goes : goal.returns-in_ok-name_value-in-Goes
returns-in_ok-name_value-in-Goes g c =
    let r = c.args.self.now in
    let env = env_of c.args.frame.now.names.items in
    let next : Value → Front = λ v. goes_on (env ++ (c.args.x.now.text, v) ∷ []) in
    let front : Front = λ answers. from_source (eval_in r.typed.now.file) c.args.from.now env answers next in
    let from = stands c.args.lower.now c.args.power.now in
    let to = stands c.source.new.lower c.source.new.power in
    let heard = subst (λ (bs : List Binding). (next : Value → Front) →
    Ran g.W.Lower.means r.typed.now.file r.number r.stop (λ answers. from_source (eval_in r.typed.now.file) c.args.from.now (env_of bs) answers next) next
    from c.args.frame.now.left (Ok c.in_ok-value.field-0) to c.source.new.left) c.as_slice.ensures.value c.in_ok-value.ensures.ran in
    let came = subst (λ (w : Flow Value). Ran g.W.Lower.means r.typed.now.file r.number r.stop front next from c.args.frame.now.left
    (Ok w) to c.source.new.left) c.in-Goes.is (heard next) in
    subst (λ (e : Env). Becomes g.W.Lower.means r.typed.now.file r.number r.stop front (goes_on e) from c.args.frame.now.left to c.source.new.left)
    (sym c.in_ok-name_value-in-Goes.ensures) came

pub returns-in-Breaks : goal.returns-in-Breaks
returns-in-Breaks g c =
    let r = c.args.self.now in
    let env = env_of c.args.frame.now.names.items in
    let next : Value → Front = λ v. goes_on (env ++ (c.args.x.now.text, v) ∷ []) in
    let front : Front = λ answers. from_source (eval_in r.typed.now.file) c.args.from.now env answers next in
    let from = stands c.args.lower.now c.args.power.now in
    let to = stands c.source.new.lower c.source.new.power in
    let heard = subst (λ (bs : List Binding). (next : Value → Front) →
    Ran g.W.Lower.means r.typed.now.file r.number r.stop (λ answers. from_source (eval_in r.typed.now.file) c.args.from.now (env_of bs) answers next) next
    from c.args.frame.now.left (Ok c.in_ok-value.field-0) to c.source.new.left) c.as_slice.ensures.value c.in_ok-value.ensures.ran in
    broken_as g.W.Lower.means r.typed.now.file r.number r.stop {U = Unit {0}} front next
    (λ (u : Unit {0}). goes_on env) from to c.args.frame.now.left c.source.new.left c.in-Breaks.how
    (subst (λ (w : Flow Value). Ran g.W.Lower.means r.typed.now.file r.number r.stop front next from c.args.frame.now.left
    (Ok w) to c.source.new.left) c.in-Breaks.is (heard next))
