use Rattle.ygg_value.proofs.Rows.{zero_flat, zero_grid}
use Rattle.ygg_value.proofs.row.zero_table.Goals as goal

pub invariant_of-result : goal.invariant_of-result
invariant_of-result c = zero_flat _ _ _ _ c.requires (c.in_ok-vec.ensures.items_if_clones_equal (λ _ e. e))

pub returns : goal.returns
returns c = zero_grid _ _ _ _ (c.in_ok-vec.ensures.items_if_clones_equal (λ _ e. e))
