use Rattle.std.proofs.Common.{◌∙◌, ap, min, unwrap_or}
use Rattle.ygg_syntax.specs.Budget.{limit}
use Rattle.ygg_syntax.specs.Weights.{weights_of, weight_at}
use Rattle.ygg_syntax.proofs.Tables.{weighs}
use Rattle.ygg_syntax.proofs.table.Weights.first_of.Goals as goal

pub returns-in-Some : goal.returns-in-Some
returns-in-Some c =
    ap (λ o. unwrap_or o 0) (c.in-Some.ensures.value ∙ c.self.invariant.each c.args.name.now) ∙ weighs _ c.args.name.now
    ∙ ap (λ defs. min limit (weight_at (weights_of defs) c.args.name.now)) c.self.view_is

pub returns-in-None : goal.returns-in-None
returns-in-None c =
    ap (λ o. unwrap_or o 0) (c.in-None.ensures.value ∙ c.self.invariant.each c.args.name.now) ∙ weighs _ c.args.name.now
    ∙ ap (λ defs. min limit (weight_at (weights_of defs) c.args.name.now)) c.self.view_is
