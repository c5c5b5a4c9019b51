use Rattle.std.proofs.Common.{◌≡◌, ◌++◌, drop}
use Rattle.std.specs.List.{flat_map}
use Rattle.ygg_cert.specs.Texts.{item_text}
use Rattle.ygg_cert.proofs.printing.put_items.Given as goal

-- what is there, and what is still to come
abbrev pub invariant-loop-item : goal.invariant-loop-item
invariant-loop-item l = l.out ++ flat_map item_text (drop l.item-index l.items) ≡ l.initial.out ++ flat_map item_text l.items
