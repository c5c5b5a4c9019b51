use Rattle.std.proofs.Common.{◌≤◌, ◌-◌, ◌^◌, ap, ◌∙◌, arith}
use Rattle.ygg_syntax.proofs.Limits.{taken_often}
use Rattle.ygg_syntax.proofs.budget.repeated.Goals as goal

pub returns : goal.returns
returns c = λ one after_one.
    let most : c.args.left ≤ 2 ^ 64 - 1 = omega (arith, c.requires.within) in
    c.saturating_sub.ensures ∙ ap (λ x. c.args.left - x) c.saturating_mul.ensures ∙ taken_often c.args.left c.args.count one c.args.after_one _ most after_one
