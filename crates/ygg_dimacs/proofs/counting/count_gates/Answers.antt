use Rattle.std.proofs.Common.{refl, ◌∙◌}
use Rattle.ygg_dimacs.proofs.Gatewise.{counts_go}
use Rattle.ygg_dimacs.proofs.counting.count_gates.Goals as goal

pub loop-place-preserved : goal.loop-place-preserved
loop-place-preserved c =
    counts_go c.args.gates.now c.args.total c.loop-place.place c.loop-place.sum _ _ c.as_slice.result.now c.in_ok-sum.sum c.loop-place-test.true refl
    (c.as_slice.ensures ∙ c.in_ok-clauses.ensures) c.in_ok-sum.ensures c.loop-place.invariant
