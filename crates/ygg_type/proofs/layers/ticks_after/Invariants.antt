use Rattle.std.proofs.Common.{◌≡◌, drop}
use Rattle.ygg_type.specs.ygg_syntax.Weights.{weights_of}
use Rattle.ygg_type.specs.ygg_type_rules.TypeErrors.{first_after}
use Rattle.ygg_type.specs.ygg_type_rules.Layers.{ticks_errors}
use Rattle.ygg_type.specs.Checking.{scope_of}
use Rattle.ygg_type.proofs.layers.ticks_after.Given as goal

-- what is left decides
abbrev pub invariant-loop-one : goal.invariant-loop-one
invariant-loop-one l =
    let scope = scope_of l.initial.checker in
    record {
      first : first_after l.checker.first.type_error (ticks_errors (drop l.one-index l.all) l.known (weights_of l.weights) scope)
          ≡ first_after l.initial.checker.first.type_error (ticks_errors l.all l.initial.known (weights_of l.weights) scope);
      same : scope_of l.checker ≡ scope;
    }
