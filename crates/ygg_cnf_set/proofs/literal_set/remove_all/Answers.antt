use Rattle.ygg_cnf_set.proofs.LiteralSetLemmas.{remove_more}
use Rattle.ygg_cnf_set.proofs.ListLemmas.{contains_all}
use Rattle.ygg_cnf_set.proofs.literal_set.remove_all.Goals as goal

pub loop-lit-preserved : goal.loop-lit-preserved
loop-lit-preserved c =
    remove_more _ _ c.args.clause.now c.loop-lit.lit-index _ _ c.loop-lit-test.true c.loop-lit.invariant c.remove.ensures

pub returns : goal.returns
returns c y =
    let all = contains_all c.args.clause.now c.loop-lit.lit-index c.loop-lit-test.false y in (
      (λ m. let p = (c.loop-lit.invariant y).0 m in (p.0, λ d. p.1 (all.1 d))),
      (λ p. (c.loop-lit.invariant y).1 (p.0, λ d. p.1 (all.0 d))),
    )
