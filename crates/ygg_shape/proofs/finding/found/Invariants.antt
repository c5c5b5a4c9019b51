use Rattle.std.proofs.Common.{◌≡◌, ◌++◌, drop}
use Rattle.std.specs.List.{filter_map}
use Rattle.ygg_shape.specs.Finding.{fact_of, found}
use Rattle.ygg_shape.proofs.finding.found.Given as goal

abbrev pub invariant-loop-pair : goal.invariant-loop-pair
invariant-loop-pair l = l.facts ++ filter_map (fact_of l.bank) (drop l.pair-index l.pairs) ≡ found l.bank l.pairs
