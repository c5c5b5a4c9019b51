use Rattle.ygg_shape_nodes.proofs.making.+made_within.Given as goal

abbrev pub decreases-made_within : goal.decreases-made_within
decreases-made_within g l = l.depth
