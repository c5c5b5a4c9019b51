use Rattle.ygg_shape_words.proofs.comparing.+same_within.Given as goal

abbrev pub decreases-same_within : goal.decreases-same_within
decreases-same_within g l = l.depth
