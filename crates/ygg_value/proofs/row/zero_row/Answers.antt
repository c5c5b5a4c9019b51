use Rattle.ygg_value.proofs.Rows.{zero_row}
use Rattle.ygg_value.proofs.row.zero_row.Goals as goal

pub invariant_of-result : goal.invariant_of-result
invariant_of-result c = zero_row _ _ _ c.requires (c.in_ok-vec.ensures.items_if_clones_equal (λ _ e. e))
