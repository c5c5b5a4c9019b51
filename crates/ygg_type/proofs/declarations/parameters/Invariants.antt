use Rattle.std.proofs.Common.{◌≡◌, drop}
use Rattle.ygg_type.specs.ygg_type_rules.TypeErrors.{first_after}
use Rattle.ygg_type.specs.ygg_type_rules.Definitions.{parameters_errors, with_parameters}
use Rattle.ygg_type.specs.Checking.{scope_of}
use Rattle.ygg_type.proofs.declarations.parameters.Given as goal

-- what is left decides
abbrev pub invariant-loop-parameter : goal.invariant-loop-parameter
invariant-loop-parameter l = record {
  first : first_after l.checker.first.type_error (parameters_errors (drop l.parameter-index l.all) (scope_of l.checker))
      ≡ first_after l.initial.checker.first.type_error (parameters_errors l.all (scope_of l.initial.checker));
  scope : with_parameters (drop l.parameter-index l.all) (scope_of l.checker) ≡ with_parameters l.all (scope_of l.initial.checker);
}
