use Rattle.std.proofs.Common.{◌≡◌, drop}
use Rattle.ygg_shape_cells.specs.Sharing.{best_of, most_shared}
use Rattle.ygg_shape_cells.proofs.sharing.most_shared.Given as goal

-- the pairs still to come give what all pairs give
abbrev pub invariant-loop-pair : goal.invariant-loop-pair
invariant-loop-pair l = best_of l.bank l.pairs l.best (drop l.pair-index l.pairs) ≡ most_shared l.bank l.pairs
