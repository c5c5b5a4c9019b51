use Rattle.std.proofs.Common.{
  ◌≡◌,
  ℕ,
  ◌<◌,
  ◌^◌,
  ◌==◌,
  ◌++◌,
  List,
  append-nil,
  ◌∷◌,
  [],
  map,
  get_or,
  true,
  false,
  refl,
  sym,
  ap,
  ◌∙◌,
  subst,
  arith,
}
use Rattle.std.proofs.lemmas.Bool.{eq-eqb, ne_eqb}
use Rattle.std.proofs.lemmas.List.{map-append}
use Rattle.std.proofs.lemmas.List.Elements.{All-get_or}
use Rattle.std.proofs.lemmas.Result.{IfOk-from_err}
use Rattle.ygg_syntax.specs.declared.tree.Expr.{Expr}
use Rattle.ygg_value.specs.Number.{Number}
use Rattle.ygg_value.specs.Values.{word_in}
use Rattle.ygg_meaning_laws.specs.ygg_syntax.Weights.{weights_of, expr_weight}
use Rattle.ygg_meaning_laws.specs.Environments.{bind}
use Rattle.ygg_meaning_laws.specs.Meaning.{is_one, quantified}
use Rattle.ygg_eval_expr.specs.Held.{env_of, held_value, held_values}
use Rattle.ygg_eval_expr.specs.Known.{Known, known_of, value_in, with_number, CanEvaluate}
use Rattle.ygg_eval_expr.proofs.Called.{definition_weighs}
use Rattle.ygg_eval_expr.specs.declared.held.CowValue.{CowValue}
use Rattle.ygg_eval_expr.proofs.Lists.{gathered, all_gathered}
use Rattle.ygg_eval_expr.proofs.Walking.{last_pushed, last_replaced, at_number, none_tested, one_tested, stopped, differ, agree}
use Rattle.ygg_eval_expr.proofs.Weighed.{
  arguments_lighter,
  call_lighter,
  left_lighter,
  right_lighter,
  denied_lighter,
  whole_lighter,
  index_lighter,
  test_lighter,
  first_lighter,
  second_lighter,
  resized_lighter,
  filled_lighter,
  words_lighter,
  quantified_lighter,
  rest_lighter,
  item_lighter,
}
use Rattle.ygg_eval_expr.proofs.Ready.{
  gives_constant,
  gives_low,
  gives_variable,
  ready_values,
  ready_call,
  gives_call,
  ready_body,
  gives_body,
  ready_left,
  ready_right,
  ready_operated,
  gives_operated,
  ready_denied,
  gives_denied,
  ready_whole,
  ready_index,
  gives_part,
  ready_test,
  ready_first,
  ready_second,
  gives_picked,
  ready_resized,
  gives_resized,
  ready_width,
  ready_filled,
  ready_equal,
  gives_filled,
  ready_words,
  ready_row,
  gives_row,
  ready_quantified,
  some_quantified,
  gives_quantified,
}
use Rattle.ygg_eval_expr.proofs.evaluator.Evaluator.+value.Goals as goal

-- definitions

pub called-value-requires : goal.called-value-requires
called-value-requires t c =
    let defs = c.args.self.now.defs.now in
    let d = get_or defs c.in-Some.place c.index-self-place.result in
    let here : d ≡ get_or defs c.in-Some.place d = ap (get_or defs c.in-Some.place) c.index-self-place.is in
    let lighter = definition_weighs defs c.args.name.now c.in-Some.place d c.in-Some.ensures.some here in
    let seen = ap (λ (k : Known). expr_weight (weights_of k.defs) d.body) c.new-inner.ensures in (
      omega arith,
      ready_body defs c.args.name.now (held_values c.args.args.now) c.in-Some.place d (known_of c.new-inner.result)
          (env_of c.as_slice-in-Some.result.now) [] c.requires c.in-Some.ensures.some here c.new-inner.ensures
          (ap env_of c.as_slice-in-Some.ensures.value ∙ c.in_ok-own-in-Some.ensures ∙ ap (λ ps. bind ps (held_values c.args.args.now)) c.as_slice.ensures) refl,
    )

pub called-returns-in_ok-value-in-Some-2 : goal.called-returns-in_ok-value-in-Some-2
called-returns-in_ok-value-in-Some-2 t c =
    let defs = c.args.self.now.defs.now in
    let d = get_or defs c.in-Some.place c.index-self-place.result in
    let here : d ≡ get_or defs c.in-Some.place d = ap (get_or defs c.in-Some.place) c.index-self-place.is in
    gives_body defs c.args.name.now (held_values c.args.args.now) c.in-Some.place d (known_of c.new-inner.result)
    (env_of c.as_slice-in-Some.result.now) [] c.in_ok-value-in-Some-2.value c.requires c.in-Some.ensures.some here c.new-inner.ensures
    (ap env_of c.as_slice-in-Some.ensures.value ∙ c.in_ok-own-in-Some.ensures ∙ ap (λ ps. bind ps (held_values c.args.args.now)) c.as_slice.ensures) refl
    (c.in_ok-value-in-Some-2.ensures ∙ c.in_ok-value-in-Some.ensures)

-- quantifiers

pub quantified-loop-i-init : goal.quantified-loop-i-init
quantified-loop-i-init t c = record {
  so_far = none_tested c.args.which (λ i. is_one (value_in (with_number (known_of c.args.self.now) c.args.x.now.text c.args.w.value i) c.args.e.now));
  all = c.is_all-all.ensures;
  ends = last_pushed c.args.self.now.numbers.now c.in_ok-numbers.numbers.items c.push.new.self.items c.numbered.result c.in_ok-numbers.ensures
      c.in_ok-push.ensures.items;
}

pub quantified-test-requires : goal.quantified-test-requires
quantified-test-requires t c =
    let self = c.args.self.now in
    let before = c.loop-i-test.true in
    let bound = c.requires.bound in
    let less : c.loop-i.i < 2 ^ c.args.w.value = omega arith in
    let known = at_number self.defs.now (env_of self.own.now)
    (env_of self.low.now) self.numbers.now c.loop-i.numbers.items c.as_slice.result.now _ c.numbered-in-loop-i.result c.args.x.now.text
    c.args.w.value c.loop-i.i
    refl c.loop-i.invariant.ends c.as_slice.ensures.value c.numbered-in-loop-i.ensures.name c.numbered-in-loop-i.ensures.value in
    (omega arith, subst (λ (k : Known). CanEvaluate k c.args.e.now) (sym known) (c.requires.each c.loop-i.i less))

pub quantified-returns-then-test-all : goal.quantified-returns-then-test-all
quantified-returns-then-test-all t c =
    let self = c.args.self.now in
    let known = at_number self.defs.now (env_of self.own.now)
    (env_of self.low.now) self.numbers.now c.loop-i.numbers.items c.as_slice.result.now _ c.numbered-in-loop-i.result c.args.x.now.text
    c.args.w.value c.loop-i.i
    refl c.loop-i.invariant.ends c.as_slice.ensures.value c.numbered-in-loop-i.ensures.name c.numbered-in-loop-i.ensures.value in
    stopped c.args.which c.args.n.value c.loop-i.i (λ i. is_one
    (value_in (with_number (known_of self) c.args.x.now.text c.args.w.value i) c.args.e.now)) c.in_ok-test.test c.is_all-all.result c.loop-i-test.true
    (c.in_ok-test.ensures ∙ ap (λ (k : Known). is_one (value_in k c.args.e.now)) known) c.loop-i.invariant.all
    (differ c.in_ok-test.test c.is_all-all.result c.if-test-all.true)

pub quantified-loop-i-preserved : goal.quantified-loop-i-preserved
quantified-loop-i-preserved t c =
    let self = c.args.self.now in
    let known = at_number self.defs.now (env_of self.own.now)
    (env_of self.low.now) self.numbers.now c.loop-i.numbers.items c.as_slice.result.now _ c.numbered-in-loop-i.result c.args.x.now.text
    c.args.w.value c.loop-i.i
    refl c.loop-i.invariant.ends c.as_slice.ensures.value c.numbered-in-loop-i.ensures.name c.numbered-in-loop-i.ensures.value in
    let here = c.in_ok-test.ensures ∙ ap (λ (k : Known). is_one (value_in k c.args.e.now)) known in
    record {
      so_far = one_tested c.args.which c.loop-i.i (λ i. is_one
          (value_in (with_number (known_of self) c.args.x.now.text c.args.w.value i) c.args.e.now)) c.loop-i.invariant.so_far
          (sym here ∙ agree c.in_ok-test.test c.is_all-all.result c.if-test-all.false ∙ c.loop-i.invariant.all);
      all = c.loop-i.invariant.all;
      ends = last_replaced self.numbers.now c.loop-i.numbers.items _ c.numbered-in-loop-i.result refl c.loop-i.invariant.ends;
    }

-- numbers and names

pub value-returns-in-Constant : goal.value-returns-in-Constant
value-returns-in-Constant t c = gives_constant (known_of c.args.self.now) c.args.e.now c.in-Constant.v c.in-Constant.w c.in-Constant.is

pub value-returns-in-Low : goal.value-returns-in-Low
value-returns-in-Low t c =
    let low = env_of c.args.self.now.low.now in
    gives_low (known_of c.args.self.now) c.args.e.now c.in-Low.field-0 c.in-Low.x c.as_slice.result.now (low ++ []) (held_value c.value_of.result)
    c.in-Low.is c.as_slice.ensures (append-nil low) c.value_of.ensures

pub value-returns-in-Variable : goal.value-returns-in-Variable
value-returns-in-Variable t c =
    gives_variable (known_of c.args.self.now) c.args.e.now c.in-Variable.x c.as_slice-in-Variable.result.now (held_value c.value_of-in-Variable.result)
    c.in-Variable.is c.as_slice-in-Variable.ensures c.value_of-in-Variable.ensures

-- a definition at its arguments

pub value-values-requires : goal.value-values-requires
value-values-requires t c =
    let k = known_of c.args.self.now in
    let lighter = arguments_lighter k c.args.e.now c.in-Apply.f c.in-Apply.arguments c.as_slice-in-Apply.result.now c.in-Apply.is
    c.as_slice-in-Apply.ensures in (
      omega arith,
      ready_values k c.args.e.now c.in-Apply.f c.in-Apply.arguments c.as_slice-in-Apply.result.now c.requires c.in-Apply.is
          c.as_slice-in-Apply.ensures,
    )

pub value-called-requires : goal.value-called-requires
value-called-requires t c =
    let k = known_of c.args.self.now in
    let lighter = call_lighter k c.args.e.now c.in-Apply.f c.in-Apply.arguments c.as_slice-in-Apply-2.result.now c.in-Apply.is
    c.as_slice-in-Apply-2.ensures in (
      omega arith,
      ready_call k c.args.e.now c.in-Apply.f c.in-Apply.arguments c.as_slice-in-Apply-2.result.now
          (held_values c.as_slice-in-Apply-3.result.now) c.requires c.in-Apply.is c.as_slice-in-Apply-2.ensures
          (ap held_values c.as_slice-in-Apply-3.ensures.value ∙ c.in_ok-arguments-in-Apply.ensures ∙ ap (map (value_in k)) c.as_slice-in-Apply.ensures),
    )

pub value-returns-in_ok-value-in-Apply : goal.value-returns-in_ok-value-in-Apply
value-returns-in_ok-value-in-Apply t c =
    let k = known_of c.args.self.now in
    gives_call k c.args.e.now c.in-Apply.f c.in-Apply.arguments c.as_slice-in-Apply-2.result.now
    (held_values c.as_slice-in-Apply-3.result.now) c.in_ok-value-in-Apply.value c.in-Apply.is
    c.as_slice-in-Apply-2.ensures
    (ap held_values c.as_slice-in-Apply-3.ensures.value ∙ c.in_ok-arguments-in-Apply.ensures ∙ ap (map (value_in k)) c.as_slice-in-Apply.ensures)
    c.in_ok-value-in-Apply.ensures

-- operators

pub value-value-requires : goal.value-value-requires
value-value-requires t c =
    let k = known_of c.args.self.now in
    let lighter = left_lighter k c.args.e.now c.in-Binary.field-0 c.in-Binary.a c.in-Binary.op c.in-Binary.field-3 c.in-Binary.b c.get.result.now
    c.in-Binary.is c.get.ensures in (
      omega arith,
      ready_left k c.args.e.now c.in-Binary.field-0 c.in-Binary.a c.in-Binary.op c.in-Binary.field-3 c.in-Binary.b c.get.result.now c.requires
          c.in-Binary.is c.get.ensures,
    )

pub value-value-requires-in-Binary : goal.value-value-requires-in-Binary
value-value-requires-in-Binary t c =
    let k = known_of c.args.self.now in
    let lighter = right_lighter k c.args.e.now c.in-Binary.field-0 c.in-Binary.a c.in-Binary.op c.in-Binary.field-3 c.in-Binary.b c.get-in-Binary.result.now
    c.in-Binary.is c.get-in-Binary.ensures in (
      omega arith,
      ready_right k c.args.e.now c.in-Binary.field-0 c.in-Binary.a c.in-Binary.op c.in-Binary.field-3 c.in-Binary.b c.get-in-Binary.result.now
          c.requires c.in-Binary.is c.get-in-Binary.ensures,
    )

pub value-operated-requires : goal.value-operated-requires
value-operated-requires t c =
    let k = known_of c.args.self.now in
    ready_operated k c.args.e.now c.in-Binary.field-0 c.in-Binary.a c.in-Binary.op c.in-Binary.field-3 c.in-Binary.b c.value-in-Binary-2.result.now
    c.value-in-Binary-3.result.now c.requires c.in-Binary.is
    (c.value-in-Binary-2.ensures ∙ c.in_ok-a-in-Binary.ensures ∙ ap (value_in k) c.get.ensures)
    (c.value-in-Binary-3.ensures ∙ c.in_ok-b-in-Binary.ensures ∙ ap (value_in k) c.get-in-Binary.ensures)

pub value-returns-in_ok-b-in-Binary : goal.value-returns-in_ok-b-in-Binary
value-returns-in_ok-b-in-Binary t c =
    let k = known_of c.args.self.now in
    c.operated.ensures
    ∙ gives_operated k c.args.e.now c.in-Binary.field-0 c.in-Binary.a c.in-Binary.op c.in-Binary.field-3 c.in-Binary.b c.value-in-Binary-2.result.now
    c.value-in-Binary-3.result.now c.in-Binary.is
    (c.value-in-Binary-2.ensures ∙ c.in_ok-a-in-Binary.ensures ∙ ap (value_in k) c.get.ensures)
    (c.value-in-Binary-3.ensures ∙ c.in_ok-b-in-Binary.ensures ∙ ap (value_in k) c.get-in-Binary.ensures)

-- `!`

pub value-word-requires : goal.value-word-requires
value-word-requires t c =
    let k = known_of c.args.self.now in
    let lighter = denied_lighter k c.args.e.now c.in-Not.field-0 c.in-Not.a c.get-in-Not.result.now c.in-Not.is c.get-in-Not.ensures in
    (omega arith, ready_denied k c.args.e.now c.in-Not.field-0 c.in-Not.a c.get-in-Not.result.now c.requires c.in-Not.is c.get-in-Not.ensures)

pub value-returns-in_ok-a-in-Not : goal.value-returns-in_ok-a-in-Not
value-returns-in_ok-a-in-Not t c =
    gives_denied (known_of c.args.self.now) c.args.e.now c.in-Not.field-0 c.in-Not.a c.get-in-Not.result.now c.in_ok-a-in-Not.a c.not.result c.in-Not.is
    c.get-in-Not.ensures c.in_ok-a-in-Not.ensures c.not.ensures

-- a part of a row or a table

pub value-value-requires-in-At : goal.value-value-requires-in-At
value-value-requires-in-At t c =
    let k = known_of c.args.self.now in
    let lighter = whole_lighter k c.args.e.now c.in-At.whole c.in-At.field-1 c.in-At.i c.get-in-At.result.now c.in-At.is c.get-in-At.ensures in
    (omega arith, ready_whole k c.args.e.now c.in-At.whole c.in-At.field-1 c.in-At.i c.get-in-At.result.now c.requires c.in-At.is c.get-in-At.ensures)

pub value-word-requires-in-At : goal.value-word-requires-in-At
value-word-requires-in-At t c =
    let k = known_of c.args.self.now in
    let lighter = index_lighter k c.args.e.now c.in-At.whole c.in-At.field-1 c.in-At.i c.get-in-At-2.result.now c.in-At.is c.get-in-At-2.ensures in
    (omega arith, ready_index k c.args.e.now c.in-At.whole c.in-At.field-1 c.in-At.i c.get-in-At-2.result.now c.requires c.in-At.is c.get-in-At-2.ensures)

pub value-returns-in_ok-part-in-At : goal.value-returns-in_ok-part-in-At
value-returns-in_ok-part-in-At t c =
    let k = known_of c.args.self.now in
    gives_part k c.args.e.now c.in-At.whole c.in-At.field-1 c.in-At.i c.value-in-At-2.result.now c.in_ok-part-in-At.part c.in_ok-i-in-At.i c.in-At.is
    (c.value-in-At-2.ensures ∙ c.in_ok-whole-in-At.ensures ∙ ap (value_in k) c.get-in-At.ensures)
    (c.in_ok-i-in-At.ensures ∙ ap (λ (e : Expr). word_in (value_in k e)) c.get-in-At-2.ensures) c.in_ok-part-in-At.ensures

-- `pick`

pub value-word-requires-in-Pick : goal.value-word-requires-in-Pick
value-word-requires-in-Pick t c =
    let k = known_of c.args.self.now in
    let lighter = test_lighter k c.args.e.now c.in-Pick.field-0 c.in-Pick.test c.in-Pick.a c.in-Pick.b c.get-in-Pick.result.now c.in-Pick.is
    c.get-in-Pick.ensures in (
      omega arith,
      ready_test k c.args.e.now c.in-Pick.field-0 c.in-Pick.test c.in-Pick.a c.in-Pick.b c.get-in-Pick.result.now c.requires c.in-Pick.is
          c.get-in-Pick.ensures,
    )

pub value-value-requires-then-test-eq1 : goal.value-value-requires-then-test-eq1
value-value-requires-then-test-eq1 t c =
    let k = known_of c.args.self.now in
    let lighter = first_lighter k c.args.e.now c.in-Pick.field-0 c.in-Pick.test c.in-Pick.a c.in-Pick.b c.get-then-test-eq1.result.now c.in-Pick.is
    c.get-then-test-eq1.ensures in (
      omega arith,
      ready_first k c.args.e.now c.in-Pick.field-0 c.in-Pick.test c.in-Pick.a c.in-Pick.b c.get-then-test-eq1.result.now c.requires
          c.in-Pick.is c.get-then-test-eq1.ensures,
    )

pub value-returns-then-test-eq1 : goal.value-returns-then-test-eq1
value-returns-then-test-eq1 t c =
    let k = known_of c.args.self.now in
    let bits : c.in_ok-test-in-Pick.test.bits ≡ 1 = sym (ap (λ (n : Number). n.bits) c.test.view_is) ∙ c.if-test-eq1.true in
    c.in_ok-a-in-Pick.ensures ∙ ap (value_in k) c.get-then-test-eq1.ensures
    ∙ gives_picked k c.args.e.now c.in-Pick.field-0 c.in-Pick.test c.in-Pick.a c.in-Pick.b c.in_ok-test-in-Pick.test true c.in-Pick.is
    (c.in_ok-test-in-Pick.ensures ∙ ap (λ (e : Expr). word_in (value_in k e)) c.get-in-Pick.ensures) (eq-eqb c.in_ok-test-in-Pick.test.bits 1 bits)

pub value-value-requires-in-Pick : goal.value-value-requires-in-Pick
value-value-requires-in-Pick t c =
    let k = known_of c.args.self.now in
    let lighter = second_lighter k c.args.e.now c.in-Pick.field-0 c.in-Pick.test c.in-Pick.a c.in-Pick.b c.get-in-Pick-2.result.now c.in-Pick.is
    c.get-in-Pick-2.ensures in (
      omega arith,
      ready_second k c.args.e.now c.in-Pick.field-0 c.in-Pick.test c.in-Pick.a c.in-Pick.b c.get-in-Pick-2.result.now c.requires
          c.in-Pick.is c.get-in-Pick-2.ensures,
    )

pub value-returns-in_ok-b-in-Pick : goal.value-returns-in_ok-b-in-Pick
value-returns-in_ok-b-in-Pick t c =
    let k = known_of c.args.self.now in
    c.in_ok-b-in-Pick.ensures ∙ ap (value_in k) c.get-in-Pick-2.ensures
    ∙ gives_picked k c.args.e.now c.in-Pick.field-0 c.in-Pick.test c.in-Pick.a c.in-Pick.b c.in_ok-test-in-Pick.test false c.in-Pick.is
    (c.in_ok-test-in-Pick.ensures ∙ ap (λ (e : Expr). word_in (value_in k e)) c.get-in-Pick.ensures)
    (ne_eqb c.in_ok-test-in-Pick.test.bits 1 (λ h. c.if-test-eq1.false (ap (λ (n : Number). n.bits) c.test.view_is ∙ h)))

-- `resize`

pub value-word-requires-in-Resize : goal.value-word-requires-in-Resize
value-word-requires-in-Resize t c =
    let k = known_of c.args.self.now in
    let lighter = resized_lighter k c.args.e.now c.in-Resize.field-0 c.in-Resize.a c.in-Resize.w c.get-in-Resize.result.now c.in-Resize.is
    c.get-in-Resize.ensures in (
      omega arith,
      ready_resized k c.args.e.now c.in-Resize.field-0 c.in-Resize.a c.in-Resize.w c.get-in-Resize.result.now c.requires c.in-Resize.is
          c.get-in-Resize.ensures,
    )

pub value-returns-in_ok-a-in-Resize : goal.value-returns-in_ok-a-in-Resize
value-returns-in_ok-a-in-Resize t c =
    gives_resized (known_of c.args.self.now) c.args.e.now c.in-Resize.field-0 c.in-Resize.a c.in-Resize.w c.get-in-Resize.result.now
    c.in_ok-a-in-Resize.a c.resize.result c.in-Resize.is c.get-in-Resize.ensures c.in_ok-a-in-Resize.ensures c.resize.ensures

pub value-overflow_cast-w : goal.value-overflow_cast-w
value-overflow_cast-w t c =
    let within = ready_width (known_of c.args.self.now) c.args.e.now c.in-Resize.field-0 c.in-Resize.a c.in-Resize.w c.requires c.in-Resize.is in
    let most = within.1 in
    omega arith

pub value-resize-requires-clause-least : goal.value-resize-requires-clause-least
value-resize-requires-clause-least t c = (ready_width
    (known_of c.args.self.now) c.args.e.now c.in-Resize.field-0 c.in-Resize.a c.in-Resize.w c.requires c.in-Resize.is).0

pub value-resize-requires-clause-most : goal.value-resize-requires-clause-most
value-resize-requires-clause-most t c = (ready_width
    (known_of c.args.self.now) c.args.e.now c.in-Resize.field-0 c.in-Resize.a c.in-Resize.w c.requires c.in-Resize.is).1

-- `fill`

pub value-word-requires-in-Fill : goal.value-word-requires-in-Fill
value-word-requires-in-Fill t c =
    let k = known_of c.args.self.now in
    let lighter = filled_lighter k c.args.e.now c.in-Fill.field-0 c.in-Fill.m c.in-Fill.a c.get-in-Fill.result.now c.in-Fill.is c.get-in-Fill.ensures in
    (omega arith, ready_filled k c.args.e.now c.in-Fill.field-0 c.in-Fill.m c.in-Fill.a c.get-in-Fill.result.now c.requires c.in-Fill.is c.get-in-Fill.ensures)

pub value-row-requires : goal.value-row-requires
value-row-requires t c =
    ready_equal (known_of c.args.self.now) c.args.e.now c.in-Fill.field-0 c.in-Fill.m c.in-Fill.a c.in_ok-a-in-Fill.a c.as_slice-in-Fill.result.now
    c.requires c.in-Fill.is
    (c.as_slice-in-Fill.ensures.value ∙ c.in_ok-words-in-Fill.ensures.items_if_clones_equal (λ y h. h))

pub value-returns-in_ok-row-in-Fill : goal.value-returns-in_ok-row-in-Fill
value-returns-in_ok-row-in-Fill t c =
    let k = known_of c.args.self.now in
    gives_filled k c.args.e.now c.in-Fill.field-0 c.in-Fill.m c.in-Fill.a c.in_ok-a-in-Fill.a c.as_slice-in-Fill.result.now c.in_ok-row-in-Fill.row
    c.requires c.in-Fill.is
    (c.as_slice-in-Fill.ensures.value ∙ c.in_ok-words-in-Fill.ensures.items_if_clones_equal (λ y h. h))
    (c.in_ok-a-in-Fill.ensures ∙ ap (λ (e : Expr). word_in (value_in k e)) c.get-in-Fill.ensures) c.in_ok-row-in-Fill.ensures

-- `row`

pub value-words-requires : goal.value-words-requires
value-words-requires t c =
    let k = known_of c.args.self.now in
    let lighter = words_lighter k c.args.e.now c.in-Row.field-0 c.in-Row.parts c.as_slice-in-Row.result.now c.in-Row.is c.as_slice-in-Row.ensures in
    (omega arith, ready_words k c.args.e.now c.in-Row.field-0 c.in-Row.parts c.as_slice-in-Row.result.now c.requires c.in-Row.is c.as_slice-in-Row.ensures)

pub value-row-requires-in-Row : goal.value-row-requires-in-Row
value-row-requires-in-Row t c =
    ready_row (known_of c.args.self.now) c.args.e.now c.in-Row.field-0 c.in-Row.parts c.as_slice-in-Row.result.now c.as_slice-in-Row-2.result.now
    c.requires c.in-Row.is c.as_slice-in-Row.ensures
    (c.as_slice-in-Row-2.ensures.value ∙ c.in_ok-words-in-Row.ensures)

pub value-returns-in_ok-row-in-Row : goal.value-returns-in_ok-row-in-Row
value-returns-in_ok-row-in-Row t c =
    gives_row (known_of c.args.self.now) c.args.e.now c.in-Row.field-0 c.in-Row.parts c.as_slice-in-Row.result.now c.as_slice-in-Row-2.result.now
    c.in_ok-row-in-Row.row c.requires c.in-Row.is c.as_slice-in-Row.ensures
    (c.as_slice-in-Row-2.ensures.value ∙ c.in_ok-words-in-Row.ensures) c.in_ok-row-in-Row.ensures

-- `all` and `any`

pub value-quantified-requires : goal.value-quantified-requires
value-quantified-requires t c =
    let k = known_of c.args.self.now in
    let some = some_quantified k c.args.e.now c.in-Quantified.field-0 c.in-Quantified.which c.in-Quantified.x c.in-Quantified.w c.in-Quantified.n
    c.in-Quantified.e c.requires c.in-Quantified.is in
    let lighter = quantified_lighter k c.args.e.now c.in-Quantified.field-0 c.in-Quantified.which c.in-Quantified.x c.in-Quantified.w
    c.in-Quantified.n c.in-Quantified.e c.get-in-Quantified.result.now c.in-Quantified.is c.get-in-Quantified.ensures some in (
      omega arith,
      ready_quantified k c.args.e.now c.in-Quantified.field-0 c.in-Quantified.which c.in-Quantified.x c.in-Quantified.w c.in-Quantified.n
          c.in-Quantified.e c.get-in-Quantified.result.now c.requires c.in-Quantified.is c.get-in-Quantified.ensures,
    )

pub value-returns-in_ok-holds-in-Quantified : goal.value-returns-in_ok-holds-in-Quantified
value-returns-in_ok-holds-in-Quantified t c =
    gives_quantified (known_of c.args.self.now) c.args.e.now c.in-Quantified.field-0 c.in-Quantified.which c.in-Quantified.x c.in-Quantified.w
    c.in-Quantified.n c.in-Quantified.e c.get-in-Quantified.result.now c.in_ok-holds-in-Quantified.holds c.digit.result
    c.in-Quantified.is c.get-in-Quantified.ensures c.in_ok-holds-in-Quantified.ensures c.digit.ensures

-- several expressions

pub values-loop-e-preserved : goal.values-loop-e-preserved
values-loop-e-preserved t c =
    let k = known_of c.args.self.now in
    let lighter = rest_lighter (weights_of c.args.self.now.defs.now) c.args.es.now c.loop-e.e-index c.loop-e-test.true in
    let before = c.loop-e.invariant.part in
    record {
      values = gathered (value_in k) (held_values c.loop-e.values.items) (held_values c.push.new.self.items)
          (held_value c.in_ok-value.value) c.args.es.now c.loop-e.e-index c.e-item.result c.loop-e-test.true c.e-item.is
          c.in_ok-value.ensures (ap held_values c.in_ok-push.ensures.items ∙ map-append held_value c.loop-e.values.items (c.in_ok-value.value ∷ []))
          c.loop-e.invariant.values;
      part = omega arith;
    }

pub words-loop-e-preserved : goal.words-loop-e-preserved
words-loop-e-preserved t c =
    let k = known_of c.args.self.now in
    let lighter = rest_lighter (weights_of c.args.self.now.defs.now) c.args.es.now c.loop-e.e-index c.loop-e-test.true in
    let before = c.loop-e.invariant.part in
    record {
      words = gathered (λ (e : Expr). word_in (value_in k e)) c.loop-e.words.items c.push.new.self.items c.in_ok-word.word c.args.es.now
          c.loop-e.e-index c.e-item.result c.loop-e-test.true c.e-item.is
          c.in_ok-word.ensures c.in_ok-push.ensures.items c.loop-e.invariant.words;
      part = omega arith;
    }

-- errors

pub called-returns-in_err-own-in-Some : goal.called-returns-in_err-own-in-Some
called-returns-in_err-own-in-Some t c = IfOk-from_err c.from_residual.result _ c.from_residual.ensures.0

pub called-returns-in_err-value-in-Some : goal.called-returns-in_err-value-in-Some
called-returns-in_err-value-in-Some t c = IfOk-from_err c.from_residual-in_err-value-in-Some.result _ c.from_residual-in_err-value-in-Some.ensures.0

pub called-returns-in_err-value-in-Some-2 : goal.called-returns-in_err-value-in-Some-2
called-returns-in_err-value-in-Some-2 t c = IfOk-from_err c.from_residual-in_err-value-in-Some-2.result _ c.from_residual-in_err-value-in-Some-2.ensures.0

pub quantified-returns-in_err-numbers : goal.quantified-returns-in_err-numbers
quantified-returns-in_err-numbers t c = IfOk-from_err c.from_residual.result _ c.from_residual.ensures.0

pub quantified-returns-in_err-push : goal.quantified-returns-in_err-push
quantified-returns-in_err-push t c = IfOk-from_err c.from_residual-in_err-push.result _ c.from_residual-in_err-push.ensures.0

pub quantified-returns-in_err-test : goal.quantified-returns-in_err-test
quantified-returns-in_err-test t c = IfOk-from_err c.from_residual-in_err-test.result _ c.from_residual-in_err-test.ensures.0

pub test-returns-in_err-word : goal.test-returns-in_err-word
test-returns-in_err-word t c = IfOk-from_err c.from_residual.result _ c.from_residual.ensures.0

pub value-returns-in_err-a-in-Binary : goal.value-returns-in_err-a-in-Binary
value-returns-in_err-a-in-Binary t c = IfOk-from_err c.from_residual-in_err-a-in-Binary.result _ c.from_residual-in_err-a-in-Binary.ensures.0

pub value-returns-in_err-a-in-Fill : goal.value-returns-in_err-a-in-Fill
value-returns-in_err-a-in-Fill t c = IfOk-from_err c.from_residual-in_err-a-in-Fill.result _ c.from_residual-in_err-a-in-Fill.ensures.0

pub value-returns-in_err-a-in-Not : goal.value-returns-in_err-a-in-Not
value-returns-in_err-a-in-Not t c = IfOk-from_err c.from_residual-in_err-a-in-Not.result _ c.from_residual-in_err-a-in-Not.ensures.0

pub value-returns-in_err-a-in-Pick : goal.value-returns-in_err-a-in-Pick
value-returns-in_err-a-in-Pick t c = IfOk-from_err c.from_residual-in_err-a-in-Pick.result _ c.from_residual-in_err-a-in-Pick.ensures.0

pub value-returns-in_err-a-in-Resize : goal.value-returns-in_err-a-in-Resize
value-returns-in_err-a-in-Resize t c = IfOk-from_err c.from_residual-in_err-a-in-Resize.result _ c.from_residual-in_err-a-in-Resize.ensures.0

pub value-returns-in_err-arguments-in-Apply : goal.value-returns-in_err-arguments-in-Apply
value-returns-in_err-arguments-in-Apply t c = IfOk-from_err c.from_residual.result _ c.from_residual.ensures.0

pub value-returns-in_err-b-in-Binary : goal.value-returns-in_err-b-in-Binary
value-returns-in_err-b-in-Binary t c = IfOk-from_err c.from_residual-in_err-b-in-Binary.result _ c.from_residual-in_err-b-in-Binary.ensures.0

pub value-returns-in_err-b-in-Pick : goal.value-returns-in_err-b-in-Pick
value-returns-in_err-b-in-Pick t c = IfOk-from_err c.from_residual-in_err-b-in-Pick.result _ c.from_residual-in_err-b-in-Pick.ensures.0

pub value-returns-in_err-holds-in-Quantified : goal.value-returns-in_err-holds-in-Quantified
value-returns-in_err-holds-in-Quantified t c = IfOk-from_err c.from_residual-in_err-holds-in-Quantified.result _
    c.from_residual-in_err-holds-in-Quantified.ensures.0

pub value-returns-in_err-i-in-At : goal.value-returns-in_err-i-in-At
value-returns-in_err-i-in-At t c = IfOk-from_err c.from_residual-in_err-i-in-At.result _ c.from_residual-in_err-i-in-At.ensures.0

pub value-returns-in_err-part-in-At : goal.value-returns-in_err-part-in-At
value-returns-in_err-part-in-At t c = IfOk-from_err c.from_residual-in_err-part-in-At.result _ c.from_residual-in_err-part-in-At.ensures.0

pub value-returns-in_err-row-in-Fill : goal.value-returns-in_err-row-in-Fill
value-returns-in_err-row-in-Fill t c = IfOk-from_err c.from_residual-in_err-row-in-Fill.result _ c.from_residual-in_err-row-in-Fill.ensures.0

pub value-returns-in_err-row-in-Row : goal.value-returns-in_err-row-in-Row
value-returns-in_err-row-in-Row t c = IfOk-from_err c.from_residual-in_err-row-in-Row.result _ c.from_residual-in_err-row-in-Row.ensures.0

pub value-returns-in_err-test-in-Pick : goal.value-returns-in_err-test-in-Pick
value-returns-in_err-test-in-Pick t c = IfOk-from_err c.from_residual-in_err-test-in-Pick.result _ c.from_residual-in_err-test-in-Pick.ensures.0

pub value-returns-in_err-value-in-Apply : goal.value-returns-in_err-value-in-Apply
value-returns-in_err-value-in-Apply t c = IfOk-from_err c.from_residual-in_err-value-in-Apply.result _ c.from_residual-in_err-value-in-Apply.ensures.0

pub value-returns-in_err-whole-in-At : goal.value-returns-in_err-whole-in-At
value-returns-in_err-whole-in-At t c = IfOk-from_err c.from_residual-in_err-whole-in-At.result _ c.from_residual-in_err-whole-in-At.ensures.0

pub value-returns-in_err-words-in-Fill : goal.value-returns-in_err-words-in-Fill
value-returns-in_err-words-in-Fill t c = IfOk-from_err c.from_residual-in_err-words-in-Fill.result _ c.from_residual-in_err-words-in-Fill.ensures.0

pub value-returns-in_err-words-in-Row : goal.value-returns-in_err-words-in-Row
value-returns-in_err-words-in-Row t c = IfOk-from_err c.from_residual-in_err-words-in-Row.result _ c.from_residual-in_err-words-in-Row.ensures.0

pub values-returns-in_err-push : goal.values-returns-in_err-push
values-returns-in_err-push t c = IfOk-from_err c.from_residual-in_err-push.result _ c.from_residual-in_err-push.ensures.0

pub values-returns-in_err-value : goal.values-returns-in_err-value
values-returns-in_err-value t c = IfOk-from_err c.from_residual.result _ c.from_residual.ensures.0

pub word-returns-in_err-value : goal.word-returns-in_err-value
word-returns-in_err-value t c = IfOk-from_err c.from_residual.result _ c.from_residual.ensures.0

pub words-returns-in_err-push : goal.words-returns-in_err-push
words-returns-in_err-push t c = IfOk-from_err c.from_residual-in_err-push.result _ c.from_residual-in_err-push.ensures.0

pub words-returns-in_err-word : goal.words-returns-in_err-word
words-returns-in_err-word t c = IfOk-from_err c.from_residual.result _ c.from_residual.ensures.0

pub called-returns-in-None : goal.called-returns-in-None
called-returns-in-None t c = sym (c.in-None.ensures.none (held_values c.args.args.now))

pub quantified-returns : goal.quantified-returns
quantified-returns t c =
    let end : c.loop-i.i ≡ c.args.n.value = omega arith in
    c.loop-i.invariant.all ∙ c.loop-i.invariant.so_far
    ∙ ap (λ (n : ℕ). quantified c.args.which n
    (λ i. is_one (value_in (with_number (known_of c.args.self.now) c.args.x.now.text c.args.w.value i) c.args.e.now))) end

pub quantified-numbered-requires-in-loop-i-clause-below : goal.quantified-numbered-requires-in-loop-i-clause-below
quantified-numbered-requires-in-loop-i-clause-below t c =
    let before = c.loop-i-test.true in
    let bound = c.requires.bound in
    omega arith

-- words and tests

pub word-value-requires : goal.word-value-requires
word-value-requires t c = (omega arith, c.requires)

pub word-returns : goal.word-returns
word-returns t c = c.word_in.ensures ∙ ap word_in (c.value-2.ensures ∙ c.in_ok-value.ensures)

pub test-word-requires : goal.test-word-requires
test-word-requires t c = (omega arith, c.requires)

pub test-returns : goal.test-returns
test-returns t c = ap (λ (n : Number). n.bits == 1) (c.word-2.view_is ∙ c.in_ok-word.ensures)

-- several expressions, one by one

pub values-loop-e-init : goal.values-loop-e-init
values-loop-e-init t c = record {
  values = ap (λ (vs : List CowValue). held_values vs ++ map (value_in (known_of c.args.self.now)) c.args.es.now) c.new-values.ensures.items;
  part = omega arith;
}

pub values-value-requires : goal.values-value-requires
values-value-requires t c =
    let k = known_of c.args.self.now in
    let lighter = item_lighter (weights_of c.args.self.now.defs.now) c.args.es.now c.loop-e.e-index c.e-item.result c.loop-e-test.true c.e-item.is in
    let left = c.loop-e.invariant.part in (
      omega arith,
      subst (CanEvaluate k) (sym c.e-item.is) (All-get_or (CanEvaluate k) c.args.es.now c.loop-e.e-index c.e-item.result c.loop-e-test.true c.requires),
    )

pub values-returns : goal.values-returns
values-returns t c = all_gathered (value_in (known_of c.args.self.now)) (held_values c.loop-e.values.items) c.args.es.now c.loop-e.e-index
    c.loop-e-test.false c.loop-e.invariant.values

pub words-loop-e-init : goal.words-loop-e-init
words-loop-e-init t c = record {
  words = ap (λ (ws : List Number). ws ++ map (λ (e : Expr). word_in (value_in (known_of c.args.self.now) e)) c.args.es.now) c.new-words.ensures.items;
  part = omega arith;
}

pub words-word-requires : goal.words-word-requires
words-word-requires t c =
    let k = known_of c.args.self.now in
    let lighter = item_lighter (weights_of c.args.self.now.defs.now) c.args.es.now c.loop-e.e-index c.e-item.result c.loop-e-test.true c.e-item.is in
    let left = c.loop-e.invariant.part in (
      omega arith,
      subst (CanEvaluate k) (sym c.e-item.is) (All-get_or (CanEvaluate k) c.args.es.now c.loop-e.e-index c.e-item.result c.loop-e-test.true c.requires),
    )

pub words-returns : goal.words-returns
words-returns t c = all_gathered (λ (e : Expr). word_in (value_in (known_of c.args.self.now) e)) c.loop-e.words.items c.args.es.now c.loop-e.e-index
    c.loop-e-test.false c.loop-e.invariant.words
