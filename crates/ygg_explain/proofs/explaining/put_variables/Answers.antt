use Rattle.std.proofs.Common.{◌++◌, ap, ◌∙◌}
use Rattle.ygg_eval_expr.specs.Held.{env_of}
use Rattle.ygg_explain.specs.Lines.{env_lines}
use Rattle.ygg_explain.proofs.Adding.{on_ok}
use Rattle.ygg_explain.proofs.Lining.{lines_are}
use Rattle.ygg_explain.proofs.explaining.put_variables.Goals as goal

pub returns : goal.returns
returns c =
    let out = c.args.out.now in
    let word = c.args.word.now in
    on_ok c.put_lines.result
    (λ added. added ∙ ap (λ e. out ++ env_lines word e) (ap env_of c.as_slice.ensures.value ∙ c.in_ok-env.ensures)
    ∙ ap (λ t. out ++ t) (lines_are word c.args.declared.now c.args.values.now)) c.put_lines.ensures
