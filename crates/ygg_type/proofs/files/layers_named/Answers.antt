use Rattle.std.proofs.Common.{◌+◌, drop, sym, ap, ◌∙◌}
use Rattle.std.proofs.lemmas.List.{at_drop_more}
use Rattle.ygg_syntax.specs.declared.tree.Layer.{Layer}
use Rattle.ygg_type.specs.ygg_syntax.Weights.{weights_of}
use Rattle.ygg_type.specs.ygg_type_rules.Names.{added}
use Rattle.ygg_type.specs.ygg_type_rules.TypeErrors.{first_after}
use Rattle.ygg_type.specs.ygg_type_rules.Layers.{below_of}
use Rattle.ygg_type.specs.ygg_type_rules.Files.{layer_errors, layers_errors, count_error}
use Rattle.ygg_type.specs.Checking.{scope_of}
use Rattle.ygg_type.specs.Ready.{below_in}
use Rattle.ygg_type.proofs.files.layers_named.Goals as goal

pub loop-before-preserved : goal.loop-before-preserved
loop-before-preserved c =
    let all = c.args.all.now in
    let i = c.loop-before.before in
    let layer = c.index-all-before.result in
    let known = c.args.checker.now.defs in
    let names = c.loop-before.names in
    let below = below_in (scope_of c.loop-before.checker) in
    let weights = weights_of c.args.weights.now in
    let before = c.loop-before.checker.first.type_error in
    let left = drop (i + 1) all in
    let done = c.in_ok-layer.ensures in
    let own = λ (l : Layer). first_after (first_after before (count_error i l)) (layer_errors l names known below weights) in
    record {
      first =
          ap (λ found. first_after found (layers_errors left (i + 1) c.layer.new.names known (below_in (scope_of c.layer.new.checker)) weights))
          (done.first
          ∙ ap (λ ds. first_after (first_after before (count_error i layer)) (layer_errors layer names ds below weights)) c.loop-before.invariant.defs)
          ∙ ap (λ ns. first_after (own layer) (layers_errors left (i + 1) ns known (below_in (scope_of c.layer.new.checker)) weights)) done.names
          ∙ ap (λ b. first_after (own layer) (layers_errors left (i + 1) (added layer.name.text tt names) known b weights)) done.below
          ∙ ap (λ l. first_after (own l) (layers_errors left (i + 1) (added l.name.text tt names) known (below_of l) weights)) c.index-all-before.is
          ∙ sym (at_drop_more (λ ls. first_after before (layers_errors ls i names known below weights)) all i layer c.loop-before-test.true)
          ∙ c.loop-before.invariant.first;
      ready = done.ready;
      defs = done.defs ∙ c.loop-before.invariant.defs;
    }
