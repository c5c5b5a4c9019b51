use Rattle.std.proofs.Common.{refl}
use Rattle.std.proofs.Math.Nat.{le_refl, le_trans}
use Rattle.ygg_syntax.specs.declared.tree.Index.{Index}
use Rattle.ygg_syntax.specs.WeightSources.{known_weights}
use Rattle.ygg_syntax.specs.Weights.{expr_weight}
use Rattle.ygg_syntax.proofs.Spent.{next, all, within}
use Rattle.ygg_syntax.proofs.weights.indices.Goals as goal

pub loop-index-init : goal.loop-index-init
loop-index-init c = record { same = refl; within = le_refl _ }

pub expression-rest-requires : goal.expression-rest-requires
expression-rest-requires c = le_trans c.loop-index.invariant.within c.requires

pub loop-index-preserved : goal.loop-index-preserved
loop-index-preserved c = record {
  same = next (λ (i : Index). expr_weight (known_weights c.args.known) i.at) c.args.indices.now c.loop-index.index-index c.index-item.result c.loop-index.rest
      c.loop-index-test.true c.index-item.is c.expression-rest.ensures c.loop-index.invariant.same;
  within = le_trans (within _ c.expression-rest.ensures) c.loop-index.invariant.within;
}

pub returns : goal.returns
returns c =
    all (λ (i : Index). expr_weight (known_weights c.args.known) i.at) c.args.indices.now c.loop-index.index-index c.loop-index.rest c.loop-index-test.false
    c.loop-index.invariant.same
