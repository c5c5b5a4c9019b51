use Rattle.std.proofs.Common.{◌≡◌, ◌≤◌, ◌+◌, ◌-◌, ◌*◌, drop}
use Rattle.ygg_syntax.specs.WeightSources.{known_weights}
use Rattle.ygg_syntax.specs.Weights.{weight_at, expr_weight, exprs_weight}
use Rattle.ygg_syntax.proofs.weights.+expression.Given as goal

-- what is left takes the rest
abbrev pub invariant-expressions-loop-e : goal.invariant-expressions-loop-e
invariant-expressions-loop-e l = record {
  same : l.rest - exprs_weight (known_weights l.known) (drop l.e-index l.expressions) ≡ l.left - exprs_weight (known_weights l.known) l.expressions;
  within : l.rest ≤ l.left;
  part : exprs_weight (known_weights l.known) (drop l.e-index l.expressions) ≤ exprs_weight (known_weights l.known) l.expressions;
}

abbrev pub decreases-expression : goal.decreases-expression
decreases-expression l = 2 * expr_weight (known_weights l.known) l.e.now

abbrev pub decreases-expressions : goal.decreases-expressions
decreases-expressions l = 2 * exprs_weight (known_weights l.known) l.expressions.now + 1

abbrev pub decreases-definition : goal.decreases-definition
decreases-definition l = 2 * weight_at (known_weights l.known) l.name.now + 1
