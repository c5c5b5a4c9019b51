use Rattle.std.proofs.Common.{◌≡◌, ◌++◌, map, drop, All}
use Rattle.ygg_value.specs.Shapes.{IsValue, shape_of}
use Rattle.ygg_plain.proofs.lowering.Lowering.values.Given as goal

-- the shapes of those so far, and then those of what is left
abbrev pub invariant-loop-k : goal.invariant-loop-k
invariant-loop-k l = record {
  shapes : map shape_of l.all ++ map shape_of (drop l.k l.values) ≡ map shape_of l.values;
  values : All IsValue l.all;
}
