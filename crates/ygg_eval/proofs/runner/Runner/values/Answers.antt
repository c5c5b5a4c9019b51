use Rattle.std.proofs.Common.{sym, ap, ◌∙◌, [], ◌∷◌, ◌++◌, subst}
use Rattle.ygg_syntax.specs.declared.tree.Expr.{Expr}
use Rattle.ygg_eval_expr.specs.Held.{env_of}
use Rattle.ygg_eval_expr.specs.Known.{CanEvaluate}
use Rattle.ygg_eval.specs.Ready.{eval_in, known_in}
use Rattle.ygg_eval.proofs.Gathered.{found_more, found_all}
use Rattle.ygg_eval.proofs.runner.Runner.values.Goals as goal

pub value-requires : goal.value-requires
value-requires c =
    let known = known_in c.args.self.now.typed.now.file (env_of c.args.names.now) in
    subst (CanEvaluate known) (sym c.e-item.is) (c.requires c.loop-e.e-index c.e-item.result c.loop-e-test.true)

pub loop-e-preserved : goal.loop-e-preserved
loop-e-preserved c =
    let eval = eval_in c.args.self.now.typed.now.file in
    let env = env_of c.args.names.now in
    found_more (λ (e : Expr). eval e env) c.args.es.now c.loop-e.e-index c.loop-e.values c.loop-e.invariant
    c.e-item.result c.push.new.self c.loop-e-test.true c.e-item.is
    (c.in_ok-push.ensures.ok ∙ ap (λ v. c.loop-e.values ++ v ∷ []) c.in_ok-value.ensures)

pub returns : goal.returns
returns c =
    let eval = eval_in c.args.self.now.typed.now.file in
    let env = env_of c.args.names.now in
    found_all (λ (e : Expr). eval e env) c.args.es.now c.loop-e.e-index c.loop-e.values c.loop-e.invariant c.loop-e-test.false
