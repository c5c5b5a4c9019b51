use Rattle.std.proofs.Common.{◌≡◌, take}
use Rattle.ygg_list.proofs.sequence.Sequence.copy.Given as goal

abbrev pub invariant-loop-item : goal.invariant-loop-item
invariant-loop-item g l = (l.item-items ≡ l.self) × (l.copy ≡ take l.item-index l.item-items)
