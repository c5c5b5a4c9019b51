use Rattle.ygg_cnf_set.proofs.ListLemmas.{contains_all}
use Rattle.ygg_chain.proofs.HeldLemmas.{remove_as_more}
use Rattle.ygg_chain.proofs.checker.remove_all_as.Goals as goal

pub loop-lit-preserved : goal.loop-lit-preserved
loop-lit-preserved c = record {
  left = remove_as_more c.args.variables.now c.args.seen.now c.loop-lit.seen c.remove_as.new.seen c.args.clause.now c.loop-lit.lit-index _
      c.loop-lit-test.true c.loop-lit.invariant.left c.remove_as.ensures.set;
  counted = c.remove_as.ensures.counted;
}

pub returns-clause-set : goal.returns-clause-set
returns-clause-set c x = (
  (λ m. let was = (c.loop-lit.invariant.left x).0 m in
      (was.0, λ y d. was.1 y ((contains_all c.args.clause.now c.loop-lit.lit-index c.loop-lit-test.false y).1 d))),
  (λ p. (c.loop-lit.invariant.left x).1 (p.0, λ y d. p.1 y ((contains_all c.args.clause.now c.loop-lit.lit-index c.loop-lit-test.false y).0 d))),
)
