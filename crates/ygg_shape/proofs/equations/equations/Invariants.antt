use Rattle.std.proofs.Common.{◌≡◌, ◌++◌, drop}
use Rattle.std.specs.List.{filter_map}
use Rattle.ygg_shape.specs.Equations.{equation_at, equations}
use Rattle.ygg_shape.proofs.equations.equations.Given as goal

abbrev pub invariant-loop-conjunct : goal.invariant-loop-conjunct
invariant-loop-conjunct l =
    l.found ++ filter_map (equation_at l.bank l.one l.zero) (drop l.conjunct-index l.conjuncts) ≡ equations l.bank l.one l.zero l.conjuncts
