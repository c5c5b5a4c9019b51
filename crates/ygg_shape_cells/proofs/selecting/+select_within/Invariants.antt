use Rattle.ygg_shape_cells.proofs.selecting.+select_within.Given as goal

abbrev pub decreases-select_within : goal.decreases-select_within
decreases-select_within g l = l.depth
