use Rattle.ygg_shape_sums.proofs.sharing.+shared_within.Given as goal

abbrev pub decreases-shared_within : goal.decreases-shared_within
decreases-shared_within g l = l.depth
