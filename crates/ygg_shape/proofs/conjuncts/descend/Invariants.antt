use Rattle.std.proofs.Common.{◌≡◌, ◌≤◌, ◌++◌, length}
use Rattle.ygg_shape.specs.Conjuncts.{conjuncts_below}
use Rattle.ygg_shape.proofs.conjuncts.descend.Given as goal

abbrev pub invariant-loop-place : goal.invariant-loop-place
invariant-loop-place l = record {
  went : l.conjuncts ++ conjuncts_below l.bank l.place l.marks ≡ l.fn.conjuncts ++ conjuncts_below l.bank l.fn.top l.fn.marks;
  count : length l.marks ≡ l.fn.top;
  below : l.place ≤ l.fn.top;
}

abbrev pub decreases-loop-place : goal.decreases-loop-place
decreases-loop-place l = l.place
