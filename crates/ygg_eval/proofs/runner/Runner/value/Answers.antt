use Rattle.std.proofs.Common.{◌≡◌, List, [], IfOk, sym, ap, ◌∙◌, subst}
use Rattle.ygg_syntax.specs.declared.tree.Def.{Def}
use Rattle.ygg_syntax.specs.declared.tree.File.{File}
use Rattle.ygg_eval_expr.specs.Held.{env_of}
use Rattle.ygg_eval_expr.specs.Known.{Known, CanEvaluate, known_of, value_in}
use Rattle.ygg_eval.specs.Ready.{known_in}
use Rattle.ygg_eval.proofs.runner.Runner.value.Goals as goal

pub value-requires : goal.value-requires
value-requires c =
    let file = c.args.self.now.typed.now.file in
    let env = env_of c.args.names.now in
    let with_defs : List Def → Known = λ ds. record { defs = ds; own = env; low = [] } in
    let known : known_of c.new-evaluator.result ≡ known_in file env =
    c.new-evaluator.ensures ∙ ap with_defs (c.as_slice-defs.ensures ∙ ap (λ (f : File). f.defs) c.file.ensures.same) in
    subst (λ (k : Known). CanEvaluate k c.args.e.now) (sym known) c.requires

pub returns : goal.returns
returns c =
    let file = c.args.self.now.typed.now.file in
    let env = env_of c.args.names.now in
    let with_defs : List Def → Known = λ ds. record { defs = ds; own = env; low = [] } in
    let known : known_of c.new-evaluator.result ≡ known_in file env =
    c.new-evaluator.ensures ∙ ap with_defs (c.as_slice-defs.ensures ∙ ap (λ (f : File). f.defs) c.file.ensures.same) in
    subst (λ w. IfOk c.into_value.result (λ v. v ≡ w)) (c.in_ok-value.ensures ∙ ap (λ (k : Known). value_in k c.args.e.now) known) c.into_value.ensures
