use Rattle.std.proofs.Common.{refl}
use Rattle.std.proofs.lemmas.List.{take_all}
use Rattle.std.proofs.lemmas.List.Elements.{All-more}
use Rattle.ygg_chain.specs.Held.{InSetAs}
use Rattle.ygg_chain.proofs.checker.all_seen_as.Goals as goal

pub loop-lit-preserved : goal.loop-lit-preserved
loop-lit-preserved c =
    All-more (InSetAs c.args.variables.now c.args.seen.now) c.args.clause.now c.loop-lit.lit-index _ c.loop-lit-test.true c.loop-lit.invariant
    (c.is_seen_as.ensures.0 c.if-not-is_seen_as.false)

pub returns : goal.returns
returns c = ((λ t. rw (take_all c.loop-lit.lit-index c.args.clause.now c.loop-lit-test.false) at c.loop-lit.invariant), (λ all. refl))
