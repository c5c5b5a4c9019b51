use Rattle.ygg_shape_sums.proofs.Fit.{fact_stands}
use Rattle.ygg_shape_sums.proofs.reading.decided.Goals as goal

pub said-requires-clause-fact : goal.said-requires-clause-fact
said-requires-clause-fact c = fact_stands c.args.bank.now c.args.facts.now c.loop-fact.fact-index _ c.requires.facts c.loop-fact-test.true
