use Rattle.std.proofs.Common.{◌≡◌, ◌++◌, drop}
use Rattle.ygg_type_rules.specs.Definitions.{parameter_shapes}
use Rattle.ygg_type.proofs.shapes.all.Given as goal

-- the shapes so far and those of what is left
abbrev pub invariant-loop-parameter : goal.invariant-loop-parameter
invariant-loop-parameter l = l.shapes ++ parameter_shapes (drop l.parameter-index l.parameters) ≡ parameter_shapes l.parameters
