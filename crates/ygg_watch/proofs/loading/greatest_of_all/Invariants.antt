use Rattle.std.proofs.Common.{◌≤◌, take, All}
use Rattle.ygg_cnf.specs.declared.lit.Lit.{Lit}
use Rattle.ygg_watch.proofs.loading.greatest_of_all.Given as goal

abbrev pub invariant-loop-clause : goal.invariant-loop-clause
invariant-loop-clause l = All (λ clause. All (λ (x : Lit). x.var ≤ l.top) clause) (take l.clause-index l.clause-items)
