use Rattle.std.proofs.Common.{take, Contains, MatchOption}
use Rattle.ygg_cnf.specs.Literals.{complement}
use Rattle.ygg_cnf.specs.Derivations.{IsPivot}
use Rattle.ygg_cnf_set.specs.LiteralSet.{InSet}
use Rattle.ygg_cnf_set.proofs.packed_set.pivot.Given as goal

abbrev pub invariant-loop-lit : goal.invariant-loop-lit
invariant-loop-lit l = MatchOption l.found ((x : _) → InSet l.seen x → Contains (take l.lit-index l.clause) (complement x) → ⊥)
    (IsPivot (InSet l.seen) (take l.lit-index l.clause))
