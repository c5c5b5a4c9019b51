use Rattle.std.proofs.Common.{◌≡◌, ◌++◌, drop}
use Rattle.ygg_type_rules.specs.TypeErrors.{first_after}
use Rattle.ygg_type_rules.specs.Expressions.{typings, parts_of, type_errors_in}
use Rattle.ygg_type.specs.Checking.{scope_of}
use Rattle.ygg_type.proofs.checker.Typer.+infer.Given as goal

-- what was found so far and what is left
abbrev pub invariant-infer_into-loop-e : goal.invariant-infer_into-loop-e
invariant-infer_into-loop-e l =
    let scope = scope_of l.initial.self in
    record {
      parts : l.parts ++ parts_of (typings (drop l.e-index l.expressions) scope) ≡ l.initial.parts ++ parts_of (typings l.expressions scope);
      first : first_after l.self.first.type_error (type_errors_in (typings (drop l.e-index l.expressions) scope)) ≡ first_after l.initial.self.first.type_error
          (type_errors_in (typings l.expressions scope));
      same : scope_of l.self ≡ scope;
    }
