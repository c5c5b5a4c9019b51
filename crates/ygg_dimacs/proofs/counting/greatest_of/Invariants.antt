use Rattle.std.proofs.Common.{◌≡◌, drop}
use Rattle.ygg_dimacs.specs.Counted.{greatest_of}
use Rattle.ygg_dimacs.proofs.counting.greatest_of.Given as goal

-- what is left decides
abbrev pub invariant-loop-clause : goal.invariant-loop-clause
invariant-loop-clause l = greatest_of l.greatest (drop l.clause-index l.clauses) ≡ greatest_of l.most l.clauses
