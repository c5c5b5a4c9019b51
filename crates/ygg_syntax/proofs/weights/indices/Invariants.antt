use Rattle.std.proofs.Common.{◌≡◌, ◌≤◌, ◌-◌, drop}
use Rattle.ygg_syntax.specs.WeightSources.{known_weights}
use Rattle.ygg_syntax.specs.Weights.{indices_weight}
use Rattle.ygg_syntax.proofs.weights.indices.Given as goal

-- what is left takes the rest
abbrev pub invariant-loop-index : goal.invariant-loop-index
invariant-loop-index l = record {
  same : l.rest - indices_weight (known_weights l.known) (drop l.index-index l.indices) ≡ l.left - indices_weight (known_weights l.known) l.indices;
  within : l.rest ≤ l.left;
}
