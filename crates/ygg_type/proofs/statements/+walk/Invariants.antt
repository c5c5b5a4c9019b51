use Rattle.std.proofs.Common.{◌≡◌, drop, map}
use Rattle.ygg_type.specs.ygg_type_rules.TypeErrors.{first_after}
use Rattle.ygg_type.specs.ygg_type_rules.Statements.{walked, in_order}
use Rattle.ygg_type.specs.Checking.{scope_of, Grows}
use Rattle.ygg_type.proofs.statements.+walk.Given as goal

-- what is left decides
abbrev pub invariant-statements-loop-one : goal.invariant-statements-loop-one
invariant-statements-loop-one l =
    let before = scope_of l.initial.checker in
    record {
      first : first_after l.checker.first.type_error (in_order (map walked (drop l.one-index l.all)) (scope_of l.checker)).type_errors
          ≡ first_after l.initial.checker.first.type_error (in_order (map walked l.all) before).type_errors;
      scope : (in_order (map walked (drop l.one-index l.all)) (scope_of l.checker)).scope ≡ (in_order (map walked l.all) before).scope;
      grows : Grows before (scope_of l.checker);
    }
