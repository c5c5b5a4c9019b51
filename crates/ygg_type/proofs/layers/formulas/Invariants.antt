use Rattle.std.proofs.Common.{◌≡◌, drop}
use Rattle.ygg_type.specs.ygg_syntax.Weights.{weights_of}
use Rattle.ygg_type.specs.ygg_type_rules.TypeErrors.{first_after}
use Rattle.ygg_type.specs.ygg_type_rules.Layers.{formulas_errors}
use Rattle.ygg_type.specs.Checking.{scope_of}
use Rattle.ygg_type.proofs.layers.formulas.Given as goal

-- what is left decides
abbrev pub invariant-loop-e : goal.invariant-loop-e
invariant-loop-e l =
    let scope = scope_of l.initial.checker in
    record {
      first : first_after l.checker.first.type_error (formulas_errors l.view (drop l.e-index l.all) (weights_of l.weights) scope)
          ≡ first_after l.initial.checker.first.type_error (formulas_errors l.view l.all (weights_of l.weights) scope);
      same : scope_of l.checker ≡ scope;
    }
