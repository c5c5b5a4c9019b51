use Rattle.std.proofs.Common.{List, Result, sym, subst}
use Rattle.ygg_list.specs.declared.memory.NoMemory.{NoMemory}
use Rattle.ygg_eval_expr.specs.ygg_meaning.Progress.{Call, ask, values_of}
use Rattle.ygg_eval_expr.specs.declared.held.Binding.{Binding}
use Rattle.ygg_eval_expr.specs.Held.{env_of}
use Rattle.ygg_eval.specs.declared.flow.Flow.{Flow}
use Rattle.ygg_eval.specs.BlockSteps.{Front, goes_on, stands, without_answer, Ran}
use Rattle.ygg_eval.specs.Ready.{eval_in}
use Rattle.ygg_eval.proofs.Sourcing.{ran_without_answer}
use Rattle.ygg_eval.proofs.runner.Runner.called.Goals as goal

pub returns : goal.returns
returns g c =
    let r = c.args.self.now in
    let env = env_of c.args.frame.now.names.items in
    let args = values_of (eval_in r.typed.now.file) c.args.es.now env in
    let from = stands c.args.lower.now c.args.power.now in
    let to = stands c.call.new.lower c.call.new.power in
    let front : Front = λ answers. ask (Call c.args.f.now.text args) answers (λ a. goes_on env) in
    subst (λ (x : Result (Flow (Unit {0})) NoMemory). Ran g.W.Lower.means r.typed.now.file r.number r.stop front
    (λ (u : Unit {0}). goes_on env) from c.args.frame.now.left x to c.call.new.left) (sym c.without_answer.ensures)
    (subst (λ (bs : List Binding). Ran g.W.Lower.means r.typed.now.file r.number r.stop
    (λ answers. ask (Call c.args.f.now.text (values_of (eval_in r.typed.now.file) c.args.es.now (env_of bs))) answers (λ a. goes_on env))
    (λ (u : Unit {0}). goes_on env)
    from c.args.frame.now.left (without_answer c.call.result) to c.call.new.left) c.as_slice-names.ensures.value
    (ran_without_answer g.W.Lower.means r.typed.now.file r.number r.stop c.args.f.now.text
    (values_of (eval_in r.typed.now.file) c.args.es.now (env_of c.as_slice-names.result.now)) env from to c.args.frame.now.left c.call.new.left
    c.call.result c.call.ensures))
