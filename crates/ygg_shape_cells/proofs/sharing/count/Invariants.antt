use Rattle.std.proofs.Common.{◌≡◌, ◌≤◌, take}
use Rattle.ygg_shape_cells.specs.Sharing.{count}
use Rattle.ygg_shape_cells.proofs.sharing.count.Given as goal

-- as many have been found as the pairs before have the test
abbrev pub invariant-loop-pair : goal.invariant-loop-pair
invariant-loop-pair l = record { value : l.found ≡ count l.bank l.test (take l.pair-index l.pairs); few : l.found ≤ l.pair-index }
