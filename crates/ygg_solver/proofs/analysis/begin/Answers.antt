use Rattle.std.proofs.Common.{◌↔◌, ◌∙◌, ⊎_elim, inr, sym, subst, Contains, ℕ, List, ◌++◌}
use Rattle.ygg_cnf_set.specs.LiteralSet.{InSet}
use Rattle.ygg_cnf.proofs.Steps.{one_clause, first_step}
use Rattle.ygg_cnf.specs.Derivations.{HasClause, DerivesClause}
use Rattle.ygg_cnf.specs.declared.lit.Lit.{Lit}
use Rattle.ygg_solver.proofs.TeachLemmas.{first_number}
use Rattle.ygg_solver.proofs.analysis.begin.Goals as goal

pub returns-clause-set : goal.returns-clause-set
returns-clause-set c clause h y =
    subst (λ (l : List Lit). InSet c.insert_all.new.seen y ↔ Contains l y)
    (c.as_slice.ensures ∙ one_clause c.args.clauses.now c.args.conflict c.clause_at-first.result.now clause c.clause_at-first.ensures h)
    ((λ m. ⊎_elim (λ n. absurd ((c.requires.clear y).0 n)) (λ d. d) ((c.insert_all.ensures y).0 m)), (λ d. (c.insert_all.ensures y).1 (inr d)))

pub returns-clause-reached : goal.returns-clause-reached
returns-clause-reached c rest clause r =
    let first = c.clause_at-first.result.now in
    subst (λ (l : List ℕ). DerivesClause (HasClause c.args.clauses.now) (l ++ rest) clause)
    (sym (first_number c.new-chain.result.items c.push.new.self.items c.args.conflict c.new-chain.ensures.items c.in_ok-push.ensures.items))
    ((first_step (HasClause c.args.clauses.now) (one_clause c.args.clauses.now)
    (InSet c.insert_all.new.seen) c.args.conflict rest first clause c.clause_at-first.ensures
    (λ y. subst (λ (l : List Lit). InSet c.insert_all.new.seen y ↔ Contains l y) c.as_slice.ensures
    ((λ m. ⊎_elim (λ n. absurd ((c.requires.clear y).0 n)) (λ d. d) ((c.insert_all.ensures y).0 m)), (λ d. (c.insert_all.ensures y).1 (inr d))))).1 r)
