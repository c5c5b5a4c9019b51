use Rattle.std.proofs.Common.{◌≡◌, ◌-◌, ◌+◌, ◌++◌, arith}
use Rattle.ygg_shape.proofs.Walks.{walk_goes}
use Rattle.ygg_shape.specs.Conjuncts.{conjuncts_below}
use Rattle.ygg_shape.proofs.conjuncts.descend.Goals as goal

pub loop-place-preserved : goal.loop-place-preserved
loop-place-preserved c =
    let e : c.loop-place.place ≡ (c.loop-place.place - 1) + 1 = omega arith in
    record {
      went = walk_goes c.args.bank.now (c.loop-place.place - 1) c.loop-place.place c.loop-place.conjuncts c.visit.new.conjuncts
          c.loop-place.marks c.visit.new.marks (c.args.conjuncts.now ++ conjuncts_below c.args.bank.now c.args.top c.args.marks.now) e
          c.in_ok-visit.ensures.conjuncts c.in_ok-visit.ensures.marks c.loop-place.invariant.went;
      count = omega arith;
      below = omega arith;
    }
