use Rattle.std.proofs.Common.{◌≡◌, drop}
use Rattle.ygg_type.specs.ygg_syntax.Weights.{weights_of}
use Rattle.ygg_type.specs.ygg_type_rules.TypeErrors.{first_after}
use Rattle.ygg_type.specs.ygg_type_rules.Layers.{operations_errors, with_operations}
use Rattle.ygg_type.specs.Checking.{scope_of}
use Rattle.ygg_type.proofs.layers.operations.Given as goal

-- what is left decides
abbrev pub invariant-loop-one : goal.invariant-loop-one
invariant-loop-one l =
    let left = drop l.one-index l.all in
    let scope = scope_of l.initial.checker in
    record {
      first : first_after l.checker.first.type_error (operations_errors left l.crash l.known (weights_of l.weights) scope)
          ≡ first_after l.initial.checker.first.type_error (operations_errors l.all l.crash l.initial.known (weights_of l.weights) scope);
      known : with_operations left l.known ≡ with_operations l.all l.initial.known;
      same : scope_of l.checker ≡ scope;
    }
