use Rattle.std.proofs.Common.{◌≡◌, drop}
use Rattle.ygg_type.specs.ygg_type_rules.TypeErrors.{first_after}
use Rattle.ygg_type.specs.ygg_type_rules.Statements.{indexed}
use Rattle.ygg_type.specs.Checking.{scope_of}
use Rattle.ygg_type.proofs.statements.part_at.Given as goal

-- what is left decides
abbrev pub invariant-loop-index : goal.invariant-loop-index
invariant-loop-index l =
    let scope = scope_of l.initial.checker in
    record {
      shape : (indexed (drop l.index-index l.indices) scope l.shape).shape ≡ (indexed l.indices scope l.initial.shape).shape;
      first : first_after l.checker.first.type_error (indexed (drop l.index-index l.indices) scope l.shape).type_errors
          ≡ first_after l.initial.checker.first.type_error (indexed l.indices scope l.initial.shape).type_errors;
      same : scope_of l.checker ≡ scope;
    }
