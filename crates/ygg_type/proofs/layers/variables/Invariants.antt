use Rattle.std.proofs.Common.{◌≡◌, drop}
use Rattle.ygg_type.specs.ygg_type_rules.TypeErrors.{first_after}
use Rattle.ygg_type.specs.ygg_type_rules.Layers.{variables_errors, with_variables}
use Rattle.ygg_type.specs.Checking.{scope_of}
use Rattle.ygg_type.proofs.layers.variables.Given as goal

-- what is left decides
abbrev pub invariant-loop-variable : goal.invariant-loop-variable
invariant-loop-variable l =
    let left = drop l.variable-index l.all in
    record {
      first : first_after l.checker.first.type_error (variables_errors l.kind left l.checker.variables) ≡ first_after l.initial.checker.first.type_error
          (variables_errors l.kind l.all l.initial.checker.variables);
      variables : with_variables l.kind left l.checker.variables ≡ with_variables l.kind l.all l.initial.checker.variables;
      scope : scope_of l.checker ≡ record (scope_of l.initial.checker) { variables = l.checker.variables };
    }
