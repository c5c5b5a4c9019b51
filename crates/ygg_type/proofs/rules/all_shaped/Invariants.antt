use Rattle.std.proofs.Common.{◌≡◌, drop}
use Rattle.ygg_type_rules.specs.Expressions.{all_shaped}
use Rattle.ygg_type.proofs.rules.all_shaped.Given as goal

-- what is left decides
abbrev pub invariant-loop-part : goal.invariant-loop-part
invariant-loop-part l = all_shaped (drop l.part-index l.parts) ≡ all_shaped l.parts
