use Rattle.std.proofs.Common.{◌∙◌}
use Rattle.std.proofs.lemmas.Result.{on_ok_weaker}
use Rattle.ygg_type.specs.Checking.{scope_of}
use Rattle.ygg_type.proofs.Restored.{cut_to}
use Rattle.ygg_type.proofs.Parameters.{grows_with}
use Rattle.ygg_type.proofs.layers.operation.Goals as goal

pub returns-clause-same : goal.returns-clause-same
returns-clause-same c =
    let before = scope_of c.args.checker.now in
    let after = scope_of c.operation_inside.new.checker in
    let same = c.forget.ensures.scope ∙ cut_to before after c.len-before.result c.len-before.ensures
    (grows_with c.args.operation.now.arguments before after c.in_ok-operation_inside.ensures.scope) in
    on_ok_weaker c.add_operation.result (λ _. same) c.add_operation.ensures
