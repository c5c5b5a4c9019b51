use Rattle.std.proofs.Common.{List, All, sym, subst, ◌∙◌, ap}
use Rattle.ygg_cnf.specs.declared.lit.Lit.{Lit}
use Rattle.ygg_chain.specs.Places.{IsPlaced, clauses_at}
use Rattle.ygg_solver.proofs.NameLemmas.{numbered_more}
use Rattle.ygg_solver.proofs.names.number_all.Goals as goal

pub loop-clause-preserved : goal.loop-clause-preserved
loop-clause-preserved c =
    let (more, grew) = c.number_clause.ensures.grows in
    let (placed, same) = numbered_more c.loop-clause.variables c.number_clause.new.variables more grew c.loop-clause.kept.items
    c.as_slice-clause-items.result.now c.loop-clause.clause-index
    c.clause-item.result c.in_ok-number_clause.field-0 c.loop-clause-test.true c.loop-clause.invariant.placed c.loop-clause.invariant.same c.clause-item.is
    c.in_ok-number_clause.ensures.placed (c.in_ok-number_clause.ensures.same ∙ c.as_slice.ensures) in
    record {
      placed = subst (λ (l : List (List Lit)). All (All (IsPlaced c.number_clause.new.variables)) l) (sym c.in_ok-push.ensures.items) placed;
      same = ap (clauses_at c.number_clause.new.variables) c.in_ok-push.ensures.items ∙ same;
    }
