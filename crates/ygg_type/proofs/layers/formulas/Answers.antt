use Rattle.std.proofs.Common.{◌+◌, drop, sym, ap, ◌∙◌}
use Rattle.std.proofs.lemmas.List.{at_drop_more}
use Rattle.ygg_type.specs.ygg_syntax.Weights.{weights_of}
use Rattle.ygg_type.specs.ygg_type_rules.TypeErrors.{first_after}
use Rattle.ygg_type.specs.ygg_type_rules.Layers.{formula_errors, formulas_errors}
use Rattle.ygg_type.specs.Checking.{scope_of}
use Rattle.ygg_type.proofs.layers.formulas.Goals as goal

pub loop-e-preserved : goal.loop-e-preserved
loop-e-preserved c =
    let view = c.args.view in
    let weights = weights_of c.args.weights.now in
    let scope = scope_of c.args.checker.now in
    let before = c.loop-e.checker.first.type_error in
    let left = formulas_errors view (drop (c.loop-e.e-index + 1) c.args.all.now) weights scope in
    record {
      first =
          ap (λ found. first_after found left)
          (c.in_ok-formula.ensures.first ∙ ap (λ s. first_after before (formula_errors view c.e-item.result weights s)) c.loop-e.invariant.same)
          ∙ ap (λ e. first_after (first_after before (formula_errors view e weights scope)) left) c.e-item.is
          ∙ sym (at_drop_more (λ es. first_after before (formulas_errors view es weights scope)) c.args.all.now c.loop-e.e-index c.e-item.result
          c.loop-e-test.true)
          ∙ c.loop-e.invariant.first;
      same = c.in_ok-formula.ensures.same ∙ c.loop-e.invariant.same;
    }
