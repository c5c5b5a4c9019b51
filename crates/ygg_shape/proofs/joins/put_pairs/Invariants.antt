use Rattle.std.proofs.Common.{◌≡◌, ◌++◌, drop}
use Rattle.std.specs.List.{flat_map}
use Rattle.ygg_shape.specs.Joins.{pair_joins}
use Rattle.ygg_shape.proofs.joins.put_pairs.Given as goal

abbrev pub invariant-loop-pair : goal.invariant-loop-pair
invariant-loop-pair l =
    l.joins ++ flat_map (pair_joins l.bank l.test l.partners) (drop l.pair-index l.pairs)
    ≡ l.fn.joins ++ flat_map (pair_joins l.bank l.test l.partners) l.pairs
