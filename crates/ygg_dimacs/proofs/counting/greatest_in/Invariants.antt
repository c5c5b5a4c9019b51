use Rattle.std.proofs.Common.{◌≡◌, drop}
use Rattle.ygg_dimacs.specs.Counted.{greatest_in}
use Rattle.ygg_dimacs.proofs.counting.greatest_in.Given as goal

-- what is left decides
abbrev pub invariant-loop-literal : goal.invariant-loop-literal
invariant-loop-literal l = greatest_in l.greatest (drop l.literal-index l.clause) ≡ greatest_in l.most l.clause
