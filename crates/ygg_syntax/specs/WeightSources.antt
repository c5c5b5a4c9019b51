-- The definitions that are known, however their weights are found.
use Rattle.ygg_syntax.specs.declared.weights.WeightSource.{WeightSource}
use Rattle.ygg_syntax.specs.declared.weights.WeightSource.TheVariants as known
use Rattle.ygg_syntax.specs.Weights.{Weights, weights_of}

-- their weights
abbrev pub known_weights : WeightSource → Weights
known_weights (known.Defs defs) = weights_of defs.now
known_weights (known.Table table) = weights_of table.now
