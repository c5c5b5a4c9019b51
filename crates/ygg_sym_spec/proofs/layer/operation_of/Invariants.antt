use Rattle.std.proofs.Common.{◌≡◌, drop}
use Rattle.ygg_sym_runs.specs.ygg_meaning.Layer.{operation_in}
use Rattle.ygg_sym_spec.proofs.layer.operation_of.Given as goal

-- what is left decides
abbrev pub invariant-loop-operation : goal.invariant-loop-operation
invariant-loop-operation l = operation_in (drop l.operation-index l.operations) l.name ≡ operation_in l.operations l.name
