use Rattle.ygg_shape_words.proofs.giving.+given_within.Given as goal

abbrev pub decreases-given_within : goal.decreases-given_within
decreases-given_within g l = l.depth
