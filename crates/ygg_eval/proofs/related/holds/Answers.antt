use Rattle.std.proofs.Common.{◌≡◌, ◌++◌, Some, sym, ap, ◌∙◌}
use Rattle.std.specs.Option.{option_copied}
use Rattle.ygg_syntax.specs.declared.tree.File.{File}
use Rattle.ygg_eval_expr.specs.ygg_meaning.Environments.{bind}
use Rattle.ygg_eval_expr.specs.ygg_meaning.Meaning.{is_one}
use Rattle.ygg_eval.specs.ygg_meaning.Shapes.{values_fit}
use Rattle.ygg_eval.specs.ygg_meaning.Stack.{tables_of}
use Rattle.ygg_eval_expr.specs.Held.{env_of}
use Rattle.ygg_eval.specs.Layers.{variables_from}
use Rattle.ygg_eval.specs.Formulas.{formula_in}
use Rattle.ygg_eval.proofs.Asked.{known_is, asked_can, asked_gives, asked_within, asked_layer, asked_expression}
use Rattle.ygg_eval.proofs.related.holds.Goals as goal

pub value-requires : goal.value-requires
value-requires c =
    let file = c.args.typed.now.file in
    let place = c.args.formula.layer in
    let layers = c.as_slice-layers.result.now in
    let l = c.index-layers-place.result in
    let same : layers ≡ file.layers = c.as_slice-layers.ensures ∙ ap (λ (f : File). f.layers) c.file-file.ensures.same in
    let is = asked_layer file c.args.formula c.args.state.now c.args.memory.now c.args.low.now layers l c.requires same c.index-layers-place.is in
    let of_layer : formula_in l c.args.formula ≡ Some c.in-Some.expression.now = sym c.expression_of.ensures ∙ ap option_copied c.in-Some.is in
    let known = c.new-evaluator.ensures ∙ known_is file c.args.formula l c.args.state.now c.args.memory.now c.args.low.now c.as_slice-4.result.now
    (env_of c.new-own.result.items) (env_of c.as_slice-5.result.now)
    (env_of c.new-below.result.items) (env_of c.as_slice-6.result.now) c.as_slice.result.now c.as_slice-2.result.now c.as_slice-3.result.now
    (c.as_slice-4.ensures ∙ ap (λ (f : File). f.defs) c.file-file.ensures.same) (ap env_of c.new-own.ensures.items)
    (ap env_of c.as_slice-5.ensures.value ∙ c.in_ok-name_own.ensures) c.as_slice.ensures c.as_slice-2.ensures
    (ap env_of c.new-below.ensures.items)
    (ap env_of c.as_slice-6.ensures.value ∙ c.in_ok-name_low.ensures
    ∙ ap (λ (f : File). env_of c.new-below.result.items ++ bind (variables_from (tables_of f.disk) layers place) c.as_slice-3.result.now)
    c.file-file.ensures.same
    ∙ ap (λ ls. env_of c.new-below.result.items ++ bind (variables_from (tables_of file.disk) ls place) c.as_slice-3.result.now) same)
    c.as_slice-3.ensures in
    asked_can file c.args.formula c.args.state.now c.args.memory.now c.args.low.now c.file-file.ensures.typed c.requires l c.in-Some.expression.now _
    is of_layer known

pub returns : goal.returns
returns c =
    let file = c.args.typed.now.file in
    let place = c.args.formula.layer in
    let layers = c.as_slice-layers.result.now in
    let l = c.index-layers-place.result in
    let same : layers ≡ file.layers = c.as_slice-layers.ensures ∙ ap (λ (f : File). f.layers) c.file-file.ensures.same in
    let is = asked_layer file c.args.formula c.args.state.now c.args.memory.now c.args.low.now layers l c.requires same c.index-layers-place.is in
    let of_layer : formula_in l c.args.formula ≡ Some c.in-Some.expression.now = sym c.expression_of.ensures ∙ ap option_copied c.in-Some.is in
    let known = c.new-evaluator.ensures ∙ known_is file c.args.formula l c.args.state.now c.args.memory.now c.args.low.now c.as_slice-4.result.now
    (env_of c.new-own.result.items) (env_of c.as_slice-5.result.now)
    (env_of c.new-below.result.items) (env_of c.as_slice-6.result.now) c.as_slice.result.now c.as_slice-2.result.now c.as_slice-3.result.now
    (c.as_slice-4.ensures ∙ ap (λ (f : File). f.defs) c.file-file.ensures.same) (ap env_of c.new-own.ensures.items)
    (ap env_of c.as_slice-5.ensures.value ∙ c.in_ok-name_own.ensures) c.as_slice.ensures c.as_slice-2.ensures
    (ap env_of c.new-below.ensures.items)
    (ap env_of c.as_slice-6.ensures.value ∙ c.in_ok-name_low.ensures
    ∙ ap (λ (f : File). env_of c.new-below.result.items ++ bind (variables_from (tables_of f.disk) layers place) c.as_slice-3.result.now)
    c.file-file.ensures.same
    ∙ ap (λ ls. env_of c.new-below.result.items ++ bind (variables_from (tables_of file.disk) ls place) c.as_slice-3.result.now) same)
    c.as_slice-3.ensures in
    asked_gives file c.args.formula c.args.state.now c.args.memory.now c.args.low.now l c.in-Some.expression.now _ c.is_one.result is of_layer known
    (c.is_one.ensures ∙ ap is_one (c.value-2.ensures ∙ c.in_ok-value.ensures))

pub bounds-layers-place : goal.bounds-layers-place
bounds-layers-place c =
    asked_within c.args.typed.now.file c.args.formula c.args.state.now c.args.memory.now c.args.low.now c.as_slice-layers.result.now c.requires
    (c.as_slice-layers.ensures ∙ ap (λ (f : File). f.layers) c.file-file.ensures.same)

pub unreachable-requires : goal.unreachable-requires
unreachable-requires c =
    let file = c.args.typed.now.file in
    let layers = c.as_slice-layers.result.now in
    let l = c.index-layers-place.result in
    let same : layers ≡ file.layers = c.as_slice-layers.ensures ∙ ap (λ (f : File). f.layers) c.file-file.ensures.same in
    asked_expression file c.args.formula c.args.state.now c.args.memory.now c.args.low.now l c.requires
    (asked_layer file c.args.formula c.args.state.now c.args.memory.now c.args.low.now layers l c.requires same c.index-layers-place.is)
    c.in_default.ensures

pub name_low-requires-clause-within : goal.name_low-requires-clause-within
name_low-requires-clause-within c =
    asked_within c.args.typed.now.file c.args.formula c.args.state.now c.args.memory.now c.args.low.now c.as_slice-layers.result.now c.requires
    (c.as_slice-layers.ensures ∙ ap (λ (f : File). f.layers) c.file-file.ensures.same)

pub name_low-requires-clause-fits : goal.name_low-requires-clause-fits
name_low-requires-clause-fits c =
    let file = c.args.typed.now.file in
    let found = c.file-file.result.now in
    let layers = c.as_slice-layers.result.now in
    let place = c.args.formula.layer in
    ap (values_fit (variables_from (tables_of found.disk) layers place)) c.as_slice-3.ensures
    ∙ ap (λ ls. values_fit (variables_from (tables_of found.disk) ls place) c.args.low.now)
    (c.as_slice-layers.ensures ∙ ap (λ (f : File). f.layers) c.file-file.ensures.same)
    ∙ ap (λ (f : File). values_fit (variables_from (tables_of f.disk) file.layers place) c.args.low.now) c.file-file.ensures.same
    ∙ c.requires.low_fits
