use Rattle.std.proofs.Common.{◌-◌, refl, sym, ap, ◌∙◌}
use Rattle.std.proofs.Math.Nat.{le_refl, le_trans, le_of_lt}
use Rattle.std.proofs.lemmas.List.{length-take-le}
use Rattle.ygg_syntax.specs.declared.weights.WeightSource.{WeightSource}
use Rattle.ygg_syntax.specs.WeightSources.{known_weights}
use Rattle.ygg_syntax.specs.Weights.{expr_weight, weight_at}
use Rattle.ygg_syntax.proofs.Spent.{
  one_less,
  less,
  less_after_one,
  after_one,
  after_two,
  after_three,
  next,
  all,
  lighter,
  item_within,
  one_taken,
  spent,
  after_none,
  within,
  stepped,
  nothing_taken,
  capped_taken,
}
use Rattle.ygg_syntax.proofs.Weighed.{
  weighed_constant,
  weighed_low,
  weighed_variable,
  weighed_apply,
  weighed_binary,
  weighed_not,
  weighed_at,
  weighed_pick,
  weighed_resize,
  weighed_fill,
  weighed_row,
  weighed_quantified,
  falls_by,
  falls_first,
  falls_second,
  falls_test,
  falls_yes,
  falls_no,
  falls_row,
  falls_arguments,
  falls_name,
  falls_often,
  falls_item,
  falls_body,
  named,
  unnamed,
}
use Rattle.ygg_syntax.proofs.weights.+expression.Goals as goal

pub expression-expressions-rest-requires : goal.expression-expressions-rest-requires
expression-expressions-rest-requires t c =
    let whole = weighed_apply (known_weights c.args.known) _ _ c.in-Apply.is c.as_slice.ensures refl in
    (falls_arguments c.decreases _ _ whole, one_less c.requires)

pub expression-definition-requires : goal.expression-definition-requires
expression-definition-requires t c =
    let whole = weighed_apply (known_weights c.args.known) _ _ c.in-Apply.is c.as_slice.ensures c.as_slice-in-Apply.ensures in
    (falls_name c.decreases _ _ whole, less_after_one _ _ c.expressions-rest.ensures c.requires)

pub expression-returns-in-Apply : goal.expression-returns-in-Apply
expression-returns-in-Apply t c =
    let whole = weighed_apply (known_weights c.args.known) _ _ c.in-Apply.is c.as_slice.ensures c.as_slice-in-Apply.ensures in
    after_two _ _ _ c.expressions-rest.ensures c.definition.ensures whole

pub expression-expression-rest-requires : goal.expression-expression-rest-requires
expression-expression-rest-requires t c =
    (falls_first c.decreases _ _ (weighed_binary (known_weights c.args.known) _ _ _ _ _ c.in-Binary.is c.get.ensures refl), one_less c.requires)

pub expression-expression-requires : goal.expression-expression-requires
expression-expression-requires t c =
    let whole = weighed_binary (known_weights c.args.known) _ _ _ _ _ c.in-Binary.is c.get.ensures c.get-in-Binary.ensures in
    (falls_second c.decreases _ _ whole, less_after_one _ _ c.expression-rest.ensures c.requires)

pub expression-returns-in-Binary : goal.expression-returns-in-Binary
expression-returns-in-Binary t c =
    after_two _ _ _ c.expression-rest.ensures c.expression.ensures
    (weighed_binary (known_weights c.args.known) _ _ _ _ _ c.in-Binary.is c.get.ensures c.get-in-Binary.ensures)

pub expression-expression-requires-in-Not : goal.expression-expression-requires-in-Not
expression-expression-requires-in-Not t c =
    (falls_by c.decreases _ (weighed_not (known_weights c.args.known) _ _ c.in-Not.is c.get-in-Not.ensures), one_less c.requires)

pub expression-returns-in-Not : goal.expression-returns-in-Not
expression-returns-in-Not t c =
    after_one _ _ c.expression-in-Not.ensures (weighed_not (known_weights c.args.known) _ _ c.in-Not.is c.get-in-Not.ensures)

pub expression-expression-rest-requires-in-At : goal.expression-expression-rest-requires-in-At
expression-expression-rest-requires-in-At t c =
    (falls_first c.decreases _ _ (weighed_at (known_weights c.args.known) _ _ _ c.in-At.is c.get-in-At.ensures refl), one_less c.requires)

pub expression-expression-requires-in-At : goal.expression-expression-requires-in-At
expression-expression-requires-in-At t c =
    let whole = weighed_at (known_weights c.args.known) _ _ _ c.in-At.is c.get-in-At.ensures c.get-in-At-2.ensures in
    (falls_second c.decreases _ _ whole, less_after_one _ _ c.expression-rest-in-At.ensures c.requires)

pub expression-returns-in-At : goal.expression-returns-in-At
expression-returns-in-At t c =
    after_two _ _ _ c.expression-rest-in-At.ensures c.expression-in-At.ensures
    (weighed_at (known_weights c.args.known) _ _ _ c.in-At.is c.get-in-At.ensures c.get-in-At-2.ensures)

pub expression-expression-rest-requires-in-Pick : goal.expression-expression-rest-requires-in-Pick
expression-expression-rest-requires-in-Pick t c =
    let whole = weighed_pick (known_weights c.args.known) _ _ _ _ c.in-Pick.is c.get-in-Pick.ensures refl refl in
    (falls_test c.decreases _ _ _ whole, one_less c.requires)

pub expression-expression-rest-requires-in-Pick-2 : goal.expression-expression-rest-requires-in-Pick-2
expression-expression-rest-requires-in-Pick-2 t c =
    let whole = weighed_pick (known_weights c.args.known) _ _ _ _ c.in-Pick.is c.get-in-Pick.ensures c.get-in-Pick-2.ensures refl in
    (falls_yes c.decreases _ _ _ whole, less_after_one _ _ c.expression-rest-in-Pick.ensures c.requires)

pub expression-expression-requires-in-Pick : goal.expression-expression-requires-in-Pick
expression-expression-requires-in-Pick t c =
    let whole = weighed_pick (known_weights c.args.known) _ _ _ _ c.in-Pick.is c.get-in-Pick.ensures c.get-in-Pick-2.ensures c.get-in-Pick-3.ensures in
    (falls_no c.decreases _ _ _ whole, less _ _ c.expression-rest-in-Pick-2.ensures (less_after_one _ _ c.expression-rest-in-Pick.ensures c.requires))

pub expression-returns-in-Pick : goal.expression-returns-in-Pick
expression-returns-in-Pick t c =
    after_three _ _ _ _ c.expression-rest-in-Pick.ensures c.expression-rest-in-Pick-2.ensures c.expression-in-Pick.ensures
    (weighed_pick (known_weights c.args.known) _ _ _ _ c.in-Pick.is c.get-in-Pick.ensures c.get-in-Pick-2.ensures c.get-in-Pick-3.ensures)

pub expression-expression-requires-in-Resize : goal.expression-expression-requires-in-Resize
expression-expression-requires-in-Resize t c =
    (falls_by c.decreases _ (weighed_resize (known_weights c.args.known) _ _ _ c.in-Resize.is c.get-in-Resize.ensures), one_less c.requires)

pub expression-returns-in-Resize : goal.expression-returns-in-Resize
expression-returns-in-Resize t c =
    after_one _ _ c.expression-in-Resize.ensures (weighed_resize (known_weights c.args.known) _ _ _ c.in-Resize.is c.get-in-Resize.ensures)

pub expression-expression-requires-in-Fill : goal.expression-expression-requires-in-Fill
expression-expression-requires-in-Fill t c =
    (falls_by c.decreases _ (weighed_fill (known_weights c.args.known) _ _ _ c.in-Fill.is c.get-in-Fill.ensures), one_less c.requires)

pub expression-returns-in-Fill : goal.expression-returns-in-Fill
expression-returns-in-Fill t c =
    after_one _ _ c.expression-in-Fill.ensures (weighed_fill (known_weights c.args.known) _ _ _ c.in-Fill.is c.get-in-Fill.ensures)

pub expression-expressions-requires : goal.expression-expressions-requires
expression-expressions-requires t c =
    (falls_row c.decreases _ (weighed_row (known_weights c.args.known) _ _ c.in-Row.is c.as_slice-in-Row.ensures), one_less c.requires)

pub expression-returns-in-Row : goal.expression-returns-in-Row
expression-returns-in-Row t c =
    after_one _ _ c.expressions.ensures (weighed_row (known_weights c.args.known) _ _ c.in-Row.is c.as_slice-in-Row.ensures)

pub expression-returns-in-Constant : goal.expression-returns-in-Constant
expression-returns-in-Constant t c = one_taken _ (weighed_constant (known_weights c.args.known) _ _ c.in-Constant.is)

pub expression-returns-in-Low : goal.expression-returns-in-Low
expression-returns-in-Low t c = one_taken _ (weighed_low (known_weights c.args.known) _ _ c.in-Low.is)

pub expression-returns-in-Variable : goal.expression-returns-in-Variable
expression-returns-in-Variable t c = one_taken _ (weighed_variable (known_weights c.args.known) _ c.in-Variable.is)

pub expression-returns-then-left-eq0 : goal.expression-returns-then-left-eq0
expression-returns-then-left-eq0 t c = spent _ c.if-left-eq0.true

pub expression-returns-then-count-eq0 : goal.expression-returns-then-count-eq0
expression-returns-then-count-eq0 t c =
    after_none _ _ c.if-count-eq0.true (weighed_quantified (known_weights c.args.known) _ _ _ _ _ _ c.in-Quantified.is refl)

pub expression-expression-after_one-requires : goal.expression-expression-after_one-requires
expression-expression-after_one-requires t c =
    let whole = weighed_quantified (known_weights c.args.known) _ _ _ _ _ _ c.in-Quantified.is c.get-in-Quantified.ensures in
    (falls_often c.decreases _ _ c.if-count-eq0.false whole, less _ _ c.saturating_sub.ensures (one_less c.requires))

pub expression-repeated-requires-clause-within : goal.expression-repeated-requires-clause-within
expression-repeated-requires-clause-within t c = one_less c.requires

pub expression-repeated-requires-clause-less : goal.expression-repeated-requires-clause-less
expression-repeated-requires-clause-less t c = within _ (stepped _ _ c.saturating_sub.ensures c.expression-after_one.ensures)

pub expression-returns-else-count-eq0 : goal.expression-returns-else-count-eq0
expression-returns-else-count-eq0 t c =
    after_one _ _ (c.repeated.ensures _ (stepped _ _ c.saturating_sub.ensures c.expression-after_one.ensures))
    (weighed_quantified (known_weights c.args.known) _ _ _ _ _ _ c.in-Quantified.is c.get-in-Quantified.ensures)

pub expressions-loop-e-init : goal.expressions-loop-e-init
expressions-loop-e-init t c = record { same = refl; within = le_refl _; part = le_refl _ }

pub expressions-expression-rest-requires : goal.expressions-expression-rest-requires
expressions-expression-rest-requires t c = (
  falls_item _ _ c.decreases
      (item_within (expr_weight (known_weights c.args.known)) c.args.expressions.now c.loop-e.e-index c.e-item.result c.loop-e-test.true c.e-item.is
      c.loop-e.invariant.part),
  le_trans c.loop-e.invariant.within c.requires,
)

pub expressions-loop-e-preserved : goal.expressions-loop-e-preserved
expressions-loop-e-preserved t c = record {
  same = next (expr_weight (known_weights c.args.known)) c.args.expressions.now c.loop-e.e-index c.e-item.result c.loop-e.rest c.loop-e-test.true c.e-item.is
      c.expression-rest.ensures c.loop-e.invariant.same;
  within = less _ _ c.expression-rest.ensures c.loop-e.invariant.within;
  part = lighter (expr_weight (known_weights c.args.known)) c.args.expressions.now c.loop-e.e-index c.e-item.result c.loop-e-test.true c.e-item.is
      c.loop-e.invariant.part;
}

pub expressions-returns : goal.expressions-returns
expressions-returns t c =
    all (expr_weight (known_weights c.args.known)) c.args.expressions.now c.loop-e.e-index c.loop-e.rest c.loop-e-test.false c.loop-e.invariant.same

pub definition-slice_bounds-expression-end : goal.definition-slice_bounds-expression-end
definition-slice_bounds-expression-end t c = sym (length-take-le c.in-Some.place c.in-Defs.defs.now (le_of_lt c.in-Some.ensures.some.within))

pub definition-bounds-defs-place : goal.definition-bounds-defs-place
definition-bounds-defs-place t c = c.in-Some.ensures.some.within

pub definition-expression-requires : goal.definition-expression-requires
definition-expression-requires t c = (
  falls_body _ _ c.decreases (named c.in-Defs.defs c.in-Some.place c.index-defs-place.result c.in-Defs.is c.in-Some.ensures.some),
  c.requires,
)

pub definition-returns-in-Some : goal.definition-returns-in-Some
definition-returns-in-Some t c =
    c.expression.ensures
    ∙ ap (λ n. c.args.left - n) (sym (named c.in-Defs.defs c.in-Some.place c.index-defs-place.result c.in-Defs.is c.in-Some.ensures.some))

pub definition-returns-in-None : goal.definition-returns-in-None
definition-returns-in-None t c = nothing_taken _ (unnamed c.args.name.now c.in-Defs.defs c.in-Defs.is c.in-None.ensures.none)

pub definition-returns-in-Table : goal.definition-returns-in-Table
definition-returns-in-Table t c =
    capped_taken c.args.left _ c.saturating_sub.ensures c.first_of-in-Table.ensures c.requires
    ∙ ap (λ (k : WeightSource). c.args.left - weight_at (known_weights k) c.args.name.now) (sym c.in-Table.is)
