use Rattle.std.proofs.Common.{◌≡◌, drop}
use Rattle.ygg_type.specs.ygg_syntax.Weights.{weights_of}
use Rattle.ygg_type.specs.ygg_type_rules.TypeErrors.{first_after}
use Rattle.ygg_type.specs.ygg_type_rules.Files.{layers_errors}
use Rattle.ygg_type.specs.Checking.{scope_of}
use Rattle.ygg_type.specs.Ready.{IsReady, below_in}
use Rattle.ygg_type.proofs.files.layers_named.Given as goal

-- what is left decides
abbrev pub invariant-loop-before : goal.invariant-loop-before
invariant-loop-before l =
    let defs = l.initial.checker.defs in
    record {
      first : first_after l.checker.first.type_error (layers_errors (drop l.before l.all) l.before l.names defs (below_in (scope_of l.checker))
          (weights_of l.weights))
          ≡ first_after l.initial.checker.first.type_error (layers_errors l.all 0 l.initial.names defs (below_in (scope_of l.initial.checker))
          (weights_of l.weights));
      ready : IsReady (scope_of l.checker);
      defs : l.checker.defs ≡ defs;
    }
