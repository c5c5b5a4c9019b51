use Rattle.std.proofs.Common.{◌≡◌, ◌∙◌, ◌+◌, true, List, [], ◌∷◌, ◌++◌, drop, sym, ap, subst}
use Rattle.std.proofs.Math.ListN.{drop_of_length-le}
use Rattle.std.proofs.lemmas.List.{append-nil}
use Rattle.std.proofs.lemmas.List.Elements.{All-tail}
use Rattle.ygg_oblige_laws.proofs.of_ygg_sym_runs.Going.{rest_is}
use Rattle.ygg_value.specs.Shapes.{IsShape}
use Rattle.ygg_syntax.specs.declared.tree.Declared.{Declared}
use Rattle.ygg_oblige_laws.specs.ygg_meaning.Environments.{bind}
use Rattle.ygg_oblige_laws.specs.ygg_meaning.Shapes.{fits, shape_in, values_fit}
use Rattle.ygg_oblige_laws.specs.ygg_shape.Fresh.{given_value, words_of}
use Rattle.ygg_oblige_laws.specs.LayerTerms.{ShapesKept}
use Rattle.ygg_oblige_given.specs.Tables.{given_values, inputs_in}
use Rattle.ygg_oblige_given.proofs.Bound.{bound_given, fit_given, left_fits, values_go}
use Rattle.ygg_oblige_given.proofs.table.InputTable.values.Goals as goal

pub loop-variable-preserved : goal.loop-variable-preserved
loop-variable-preserved c =
    let inputs = inputs_in c.args.self.now in
    let ds = c.args.declared.now in
    let i = c.loop-variable.variable-index in
    let d : Declared = c.variable-item.result in
    let shape : c.shape_of-shape.result ≡ shape_in d.shape = c.shape_of-shape.ensures in
    let left : drop i ds ≡ d ∷ drop (i + 1) ds = rest_is ds i d d c.loop-variable-test.true c.variable-item.is in
    let next : c.in_ok-next.next ≡ c.loop-variable.next + words_of (shape_in d.shape) =
    c.in_ok-next.ensures ∙ ap (λ n. c.loop-variable.next + n) (c.words_of.ensures ∙ ap words_of shape) in
    let value : c.in_ok-value.value ≡ given_value inputs c.loop-variable.next (shape_in d.shape) =
    c.in_ok-value.ensures ∙ ap (given_value inputs c.loop-variable.next) shape in (
      values_go inputs (given_values inputs c.args.number ds) c.loop-variable.values c.push.new.self c.loop-variable.next c.in_ok-next.next (drop i ds)
          (drop (i + 1) ds) d c.in_ok-value.value left c.loop-variable.invariant.0 c.in_ok-push.ensures.ok value next,
      All-tail (λ (x : Declared). IsShape (shape_in x.shape)) d (drop (i + 1) ds) (subst ShapesKept left c.loop-variable.invariant.1),
      (left_fits inputs c.loop-variable.next c.in_ok-next.next (drop i ds) (drop (i + 1) ds) d left next c.loop-variable.invariant.2).1,
    )

pub returns : goal.returns
returns c =
    let inputs = inputs_in c.args.self.now in
    let ds = c.args.declared.now in
    let none : drop c.loop-variable.variable-index ds ≡ [] = drop_of_length-le ds c.loop-variable-test.false in
    let is : c.loop-variable.values ≡ given_values inputs c.args.number ds =
    sym (append-nil c.loop-variable.values)
    ∙ ap (λ (xs : List Declared). c.loop-variable.values ++ given_values inputs c.loop-variable.next xs) (sym none) ∙ c.loop-variable.invariant.0 in
    record {
      is = is;
      fits = ap (values_fit ds) is ∙ fit_given inputs c.args.number ds c.requires.fit;
      bound = ap (bind ds) is ∙ bound_given inputs c.args.number ds;
    }
