use Rattle.std.proofs.Common.{◌≡◌, ◌++◌, drop}
use Rattle.std.specs.List.{flat_map}
use Rattle.ygg_shape.specs.Joins.{joins_at, joins}
use Rattle.ygg_shape.proofs.joins.joins.Given as goal

abbrev pub invariant-loop-conjunct : goal.invariant-loop-conjunct
invariant-loop-conjunct l =
    l.found ++ flat_map (joins_at l.bank l.one l.zero) (drop l.conjunct-index l.conjuncts) ≡ joins l.bank l.one l.zero l.conjuncts
