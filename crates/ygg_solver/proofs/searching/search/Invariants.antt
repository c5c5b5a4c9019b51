use Rattle.std.proofs.Common.{◌≡◌, ◌<◌, length, All, ◌++◌, map, ◌-◌}
use Rattle.ygg_cnf_set.specs.LiteralSet.{Fits, IsSetOf}
use Rattle.ygg_cnf.specs.Logs.{Derives, EachTeaches, clause_of}
use Rattle.ygg_cnf.specs.declared.lit.Lit.{Lit}
use Rattle.ygg_solver.specs.Kept.{IsReady}
use Rattle.ygg_solver.proofs.searching.search.Given as goal

abbrev pub invariant-loop-conflict : goal.invariant-loop-conflict
invariant-loop-conflict g l =
    let state = g.P.Propagate.state l.propagation in
    let given = (g.P.Propagate.state l.initial.propagation).clauses in
    record {
      variable_count : l.variable_count ≡ state.variable_count;
      ready : IsReady state;
      learned : state.clauses ≡ given ++ map clause_of l.log;
      fits : All (λ clause. All (Fits (length l.seen)) clause) state.clauses;
      variables : All (λ clause. All (λ (x : Lit). x.var < l.variable_count) clause) state.clauses;
      clear : IsSetOf l.seen (λ _. ⊥);
      derives : Derives given l.log;
      teach : EachTeaches given l.log;
      left : length l.log < l.budget;
    }

abbrev pub decreases-loop-conflict : goal.decreases-loop-conflict
decreases-loop-conflict g l = l.budget - length l.log
