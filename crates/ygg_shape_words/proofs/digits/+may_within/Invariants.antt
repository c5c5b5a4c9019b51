use Rattle.ygg_shape_words.proofs.digits.+may_within.Given as goal

abbrev pub decreases-may_within : goal.decreases-may_within
decreases-may_within l = l.depth
