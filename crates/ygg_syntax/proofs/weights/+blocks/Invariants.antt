use Rattle.std.proofs.Common.{◌≡◌, ◌≤◌, ◌-◌, drop, map, sum}
use Rattle.ygg_syntax.specs.WeightSources.{known_weights}
use Rattle.ygg_syntax.specs.Weights.{stmt_weight}
use Rattle.ygg_syntax.proofs.weights.+blocks.Given as goal

-- what is left takes the rest
abbrev pub invariant-statements-loop-one : goal.invariant-statements-loop-one
invariant-statements-loop-one l = record {
  same : l.rest - sum (map (stmt_weight (known_weights l.known)) (drop l.one-index l.statements)) ≡ l.left - sum
      (map (stmt_weight (known_weights l.known)) l.statements);
  within : l.rest ≤ l.left;
}
