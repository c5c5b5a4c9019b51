use Rattle.ygg_cert.specs.ygg_cnf.Steps.{IsLiteral}
use Rattle.ygg_certify.proofs.Firsts.{all_more, all_whole}
use Rattle.ygg_certify.proofs.literals.clause_may.Goals as goal

pub loop-lit-preserved : goal.loop-lit-preserved
loop-lit-preserved c =
    all_more IsLiteral c.args.clause.now c.loop-lit.lit-index _ c.loop-lit-test.true c.loop-lit.invariant c.number_may.ensures

pub returns : goal.returns
returns c = all_whole IsLiteral c.args.clause.now c.loop-lit.lit-index c.loop-lit-test.false c.loop-lit.invariant
