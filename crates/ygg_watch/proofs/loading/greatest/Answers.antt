use Rattle.std.proofs.Common.{arith, false}
use Rattle.std.proofs.lemmas.List.{take_all}
use Rattle.ygg_watch.proofs.LoadLemmas.{top_more}
use Rattle.ygg_watch.proofs.loading.greatest.Goals.{then-lit-top, else-lit-top}
use Rattle.ygg_watch.proofs.loading.greatest.Goals as goal

pub loop-lit-preserved : goal.loop-lit-preserved
loop-lit-preserved c = elim c.if-lit-top.branch [
  | then-lit-top w ↦ (let e = w.top-is in let t = w.if-lit-top.true in record {
    least = let a = c.loop-lit.invariant.least in omega (arith, a, t, e);
    within = top_more c.args.clause.now c.loop-lit.lit-index
        (record { var = 0; negated = false }) c.loop-lit.top c.if-lit-top.top c.loop-lit-test.true c.loop-lit.invariant.within (omega (arith, t, e))
        (omega (arith, e));
  })
  | else-lit-top w ↦ (let e = w.top-is in let t = w.if-lit-top.false in record {
    least = let a = c.loop-lit.invariant.least in omega (arith, a, e);
    within = top_more c.args.clause.now c.loop-lit.lit-index
        (record { var = 0; negated = false }) c.loop-lit.top c.if-lit-top.top c.loop-lit-test.true c.loop-lit.invariant.within (omega (arith, e))
        (omega (arith, t, e));
  })
]

pub returns-clause-within : goal.returns-clause-within
returns-clause-within c = rw (take_all c.loop-lit.lit-index c.args.clause.now c.loop-lit-test.false) at c.loop-lit.invariant.within
