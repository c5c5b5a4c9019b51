use Rattle.std.proofs.Common.{◌≤◌, take, All}
use Rattle.ygg_cnf.specs.declared.lit.Lit.{Lit}
use Rattle.ygg_watch.proofs.loading.greatest.Given as goal

abbrev pub invariant-loop-lit : goal.invariant-loop-lit
invariant-loop-lit l = record {
  least : l.least ≤ l.top;
  within : All (λ (x : Lit). x.var ≤ l.top) (take l.lit-index l.clause);
}
