use Rattle.ygg_shape.proofs.equating.+equal_within.Given as goal

abbrev pub decreases-equal_within : goal.decreases-equal_within
decreases-equal_within g l = l.depth
