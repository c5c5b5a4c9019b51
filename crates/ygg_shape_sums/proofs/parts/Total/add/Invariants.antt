use Rattle.std.proofs.Common.{◌≡◌, ◌++◌, take, drop}
use Rattle.ygg_shape_sums.specs.Parts.{merged}
use Rattle.ygg_shape_sums.proofs.parts.Total.add.Given as goal

-- the parts before the place are other terms, of lower places
abbrev pub invariant-loop-place : goal.invariant-loop-place
invariant-loop-place l = record {
  same : l.self-inside ≡ l.initial.self-inside;
  went : merged l.part l.self-inside.parts.items ≡ take l.place l.self-inside.parts.items ++ merged l.part (drop l.place l.self-inside.parts.items);
}
