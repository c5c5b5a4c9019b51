use Rattle.std.proofs.Common.{◌≡◌, ◌++◌, codes, ap, ◌∙◌}
use Rattle.ygg_eval.specs.ygg_meaning.Environments.{bind}
use Rattle.ygg_eval_expr.specs.Held.{env_of}
use Rattle.ygg_sched.specs.Printing.{variable_lines}
use Rattle.ygg_sched.specs.Sites.{low_lines, site_in}
use Rattle.ygg_explain.specs.Lines.{env_lines}
use Rattle.ygg_explain.proofs.Adding.{on_ok}
use Rattle.ygg_explain.proofs.Lining.{lines_are}
use Rattle.ygg_explain.proofs.explaining.put_low.Goals as goal

pub returns-in_ok-env-in-Variables : goal.returns-in_ok-env-in-Variables
returns-in_ok-env-in-Variables c =
    let out = c.args.out.now in
    let word = codes "low " in
    let ds = c.in-Variables.declared.now in
    let same : ds ≡ low_lines (site_in c.args.claim) = rw c.in-Variables.is at c.low.ensures in
    on_ok c.put_lines-in-Variables.result
    (λ added. added ∙ ap (λ e. out ++ env_lines word e) (ap env_of c.as_slice-in-Variables-2.ensures.value ∙ c.in_ok-env-in-Variables.ensures
    ∙ ap (bind ds) c.as_slice-in-Variables.ensures) ∙ ap (λ t. out ++ t) (lines_are word ds c.args.schedule.now.low)
    ∙ ap (λ es. out ++ variable_lines word es c.args.schedule.now.low) same) c.put_lines-in-Variables.ensures
