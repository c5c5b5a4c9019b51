use Rattle.std.proofs.Common.{◌≡◌, ◌++◌, drop}
use Rattle.ygg_type.specs.ygg_type_rules.TypeErrors.{first_after}
use Rattle.ygg_type.specs.ygg_type_rules.Definitions.{definitions_errors, definition_scope, with_definitions}
use Rattle.ygg_type.specs.Checking.{scope_of}
use Rattle.ygg_type.proofs.definitions.definitions.Given as goal

-- what is left decides
abbrev pub invariant-loop-def : goal.invariant-loop-def
invariant-loop-def l =
    let left = drop l.def-index l.defs in
    record {
      first : first_after l.checker.first.type_error (definitions_errors left l.weights l.checker.defs) ≡ first_after l.initial.checker.first.type_error
          (definitions_errors l.defs l.initial.weights l.initial.checker.defs);
      seen : scope_of l.checker ≡ definition_scope l.checker.defs;
      defs : with_definitions left l.checker.defs ≡ with_definitions l.defs l.initial.checker.defs;
      weights : l.weights ++ left ≡ l.initial.weights ++ l.defs;
    }
