use Rattle.ygg_rules.proofs.Widths.{can_fold}
use Rattle.ygg_rules.proofs.judges.fold.Goals as goal

pub apply-requires : goal.apply-requires
apply-requires c = can_fold _ c.view.invariant _ _ _ _ c.in-Bin-Some-Some.is-0 c.in-Bin-Some-Some.is-1 c.in-Bin-Some-Some.is-2 c.in-Some.is
