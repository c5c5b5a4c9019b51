use Rattle.std.proofs.Common.{◌≡◌, drop}
use Rattle.ygg_shape.specs.Joins.{all_noted}
use Rattle.ygg_shape.proofs.joins.note_all.Given as goal

abbrev pub invariant-loop-pair : goal.invariant-loop-pair
invariant-loop-pair l = all_noted l.partners (drop l.pair-index l.pairs) ≡ all_noted l.fn.partners l.pairs
