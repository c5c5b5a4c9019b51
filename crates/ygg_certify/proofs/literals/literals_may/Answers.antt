use Rattle.std.proofs.Common.{◌<◌, List, sym, subst, ◌∙◌}
use Rattle.std.specs.Prelude.{All}
use Rattle.ygg_cert.specs.ygg_cnf.declared.lit.Lit.{Lit}
use Rattle.ygg_cert.specs.ygg_cnf.Steps.{IsLiteral}
use Rattle.ygg_certify.proofs.Firsts.{all_more, all_whole}
use Rattle.ygg_certify.proofs.Standing.{all_at}
use Rattle.ygg_certify.proofs.literals.literals_may.Goals as goal

pub clause_may-requires : goal.clause_may-requires
clause_may-requires c =
    subst (λ (xs : List Lit). All (λ (x : Lit). 0 < x.var) xs) (sym c.as_slice.ensures)
    (all_at (All (λ (x : Lit). 0 < x.var)) c.args.clauses.now c.loop-clause.clause-index c.clause-item.result c.loop-clause-test.true
    c.clause-item.is c.requires)

pub loop-clause-preserved : goal.loop-clause-preserved
loop-clause-preserved c =
    all_more (All IsLiteral) c.args.clauses.now c.loop-clause.clause-index c.clause-item.result c.loop-clause-test.true c.loop-clause.invariant
    (subst (λ (xs : List Lit). All IsLiteral xs) (c.as_slice.ensures ∙ c.clause-item.is) c.clause_may.ensures)

pub returns : goal.returns
returns c = all_whole (All IsLiteral) c.args.clauses.now c.loop-clause.clause-index c.loop-clause-test.false c.loop-clause.invariant
