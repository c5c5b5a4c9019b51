use Rattle.std.proofs.Common.{ap, ◌∙◌}
use Rattle.std.proofs.lemmas.Result.{IfOk-from_err}
use Rattle.ygg_value.specs.Number.{Grid}
use Rattle.ygg_disk.proofs.Copying.{zeros_fit}
use Rattle.ygg_disk.specs.Size.{zeros_of}
use Rattle.ygg_disk.proofs.async_disk.fresh_async.Goals as goal

pub returns-in_err-view : goal.returns-in_err-view
returns-in_err-view c = IfOk-from_err c.from_residual.result _ c.from_residual.ensures.0

pub returns-in_err-stable : goal.returns-in_err-stable
returns-in_err-stable c = IfOk-from_err c.from_residual-in_err-stable.result _ c.from_residual-in_err-stable.ensures.0

pub returns-in_err-spare : goal.returns-in_err-spare
returns-in_err-spare c = IfOk-from_err c.from_residual-in_err-spare.result _ c.from_residual-in_err-spare.ensures.0

pub invariant_of-result : goal.invariant_of-result
invariant_of-result c = (
  c.in_ok-view.ensures.size,
  c.in_ok-stable.ensures.size,
  zeros_fit c.args.geometry c.in_ok-view.view c.in_ok-spare.spare c.in_ok-view.ensures.size c.in_ok-spare.ensures,
)

pub returns : goal.returns
returns c =
    ap (λ (v : Grid). record { view = v; stable = c.in_ok-stable.stable }) c.in_ok-view.ensures.zeros
    ∙ ap (λ (s : Grid). record { view = zeros_of c.args.geometry; stable = s }) c.in_ok-stable.ensures.zeros
