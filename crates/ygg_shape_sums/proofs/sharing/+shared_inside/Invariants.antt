use Rattle.ygg_shape_sums.proofs.sharing.+shared_inside.Given as goal

abbrev pub decreases-shared_inside : goal.decreases-shared_inside
decreases-shared_inside g l = l.depth
