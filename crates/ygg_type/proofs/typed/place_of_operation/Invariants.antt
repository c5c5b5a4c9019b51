use Rattle.std.proofs.Common.{◌≡◌, drop}
use Rattle.ygg_type.specs.Typed.{operation_place}
use Rattle.ygg_type.proofs.typed.place_of_operation.Given as goal

-- what is left decides
abbrev pub invariant-loop-place : goal.invariant-loop-place
invariant-loop-place l = operation_place l.place (drop l.place l.operations) l.name ≡ operation_place 0 l.operations l.name
