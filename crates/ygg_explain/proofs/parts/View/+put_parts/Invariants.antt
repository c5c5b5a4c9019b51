use Rattle.ygg_syntax.specs.Weights.{weights_of, expr_weight}
use Rattle.ygg_explain.proofs.parts.View.+put_parts.Given as goal

-- what the formula weighs
abbrev pub decreases-put_parts : goal.decreases-put_parts
decreases-put_parts l = expr_weight (weights_of l.self.now.defs.now) l.e.now
