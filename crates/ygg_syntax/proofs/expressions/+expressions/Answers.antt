use Rattle.std.proofs.Common.{map, refl, sym, ap, ◌∙◌}
use Rattle.std.proofs.lemmas.Bool.{false≢true}
use Rattle.ygg_syntax.specs.Bare.{bare}
use Rattle.ygg_syntax.proofs.Paired.{next, differ, shorter, ends}
use Rattle.ygg_syntax.specs.declared.tree.Expr.TheVariants as expr
use Rattle.ygg_syntax.specs.declared.tree.Expr.TheOpen.{Expr-F}
use Rattle.ygg_syntax.proofs.Apart.{apart}
use Rattle.ygg_syntax.proofs.Sames.{
  same_apply,
  same_binary,
  same_not,
  same_at,
  same_pick,
  same_resize,
  same_fill,
  same_row,
  same_quantified,
  same_constant,
  same_low,
  same_variable,
}
use Rattle.ygg_syntax.proofs.expressions.+expressions.Goals as goal

pub expression-returns-in-Apply-Apply : goal.expression-returns-in-Apply-Apply
expression-returns-in-Apply-Apply t c =
    let whole = same_apply _ _ _ _ c.in-Apply-Apply.is-0 c.in-Apply-Apply.is-1 in
    (λ yes. whole.0 (c.call.ensures.0 yes), λ same. c.call.ensures.1 (whole.1 same))

pub expression-returns-in-Not-Not : goal.expression-returns-in-Not-Not
expression-returns-in-Not-Not t c =
    let whole = same_not _ _ _ _ c.in-Not-Not.is-0 c.in-Not-Not.is-1 c.get-in-Not-Not.ensures c.get-in-Not-Not-2.ensures in
    (λ yes. whole.0 (c.expression-in-Not-Not.ensures.0 yes), λ same. c.expression-in-Not-Not.ensures.1 (whole.1 same))

pub expression-returns-in-Resize-Resize : goal.expression-returns-in-Resize-Resize
expression-returns-in-Resize-Resize t c =
    let whole = same_resize _ _ _ _ _ _ c.in-Resize-Resize.is-0 c.in-Resize-Resize.is-1 in
    (λ yes. whole.0 (c.sized.ensures.0 yes), λ same. c.sized.ensures.1 (whole.1 same))

pub expression-returns-in-Fill-Fill : goal.expression-returns-in-Fill-Fill
expression-returns-in-Fill-Fill t c =
    let whole = same_fill _ _ _ _ _ _ c.in-Fill-Fill.is-0 c.in-Fill-Fill.is-1 in
    (λ yes. whole.0 (c.sized-in-Fill-Fill.ensures.0 yes), λ same. c.sized-in-Fill-Fill.ensures.1 (whole.1 same))

pub expression-returns-in-Row-Row : goal.expression-returns-in-Row-Row
expression-returns-in-Row-Row t c =
    let whole = same_row _ _ _ _ c.in-Row-Row.is-0 c.in-Row-Row.is-1 c.as_slice.ensures c.as_slice-in-Row-Row.ensures in
    (λ yes. whole.0 (c.expressions.ensures.0 yes), λ same. c.expressions.ensures.1 (whole.1 same))

pub expression-returns-then-bound : goal.expression-returns-then-bound
expression-returns-then-bound t c =
    let whole = same_quantified _ _ _ _ _ _ _ _ _ _ _ _ c.in-Quantified-Quantified.is-0 c.in-Quantified-Quantified.is-1 c.get-then-bound.ensures
    c.get-then-bound-2.ensures in
    (λ yes. whole.0 (c.bound.ensures.0 c.if-bound.true, c.expression-then-bound.ensures.0 yes), λ same. c.expression-then-bound.ensures.1 (whole.1 same).1)

pub expression-returns-then-expression : goal.expression-returns-then-expression
expression-returns-then-expression t c =
    let whole = same_binary _ _ _ _ _ _ _ _ _ _ c.in-Binary-Binary.is-0 c.in-Binary-Binary.is-1 c.get.ensures c.get-then-operator.ensures
    c.get-then-expression.ensures c.get-then-expression-2.ensures in
    let first = c.operator.ensures.0 c.if-operator.true in
    let second = c.expression.ensures.0 c.if-expression.true in
    (λ yes. whole.0 (first, second, c.expression-then-expression.ensures.0 yes), λ same. c.expression-then-expression.ensures.1 (whole.1 same).2)

pub expression-returns-else-expression : goal.expression-returns-else-expression
expression-returns-else-expression t c =
    let whole = same_binary _ _ _ _ _ _ _ _ _ _ c.in-Binary-Binary.is-0 c.in-Binary-Binary.is-1 c.get.ensures c.get-then-operator.ensures refl refl in
    (λ yes. absurd (false≢true (sym c.if-expression.false ∙ yes)), λ same. c.expression.ensures.1 (whole.1 same).1)

pub expression-returns-then-expression-2 : goal.expression-returns-then-expression-2
expression-returns-then-expression-2 t c =
    let whole = same_at _ _ _ _ _ _ c.in-At-At.is-0 c.in-At-At.is-1 c.get-in-At-At.ensures c.get-in-At-At-2.ensures c.get-then-expression-2-2.ensures
    c.get-then-expression-2-3.ensures in
    let first = c.expression-in-At-At.ensures.0 c.if-expression-2.true in
    (λ yes. whole.0 (first, c.expression-then-expression-2.ensures.0 yes), λ same. c.expression-then-expression-2.ensures.1 (whole.1 same).1)

pub expression-returns-else-expression-2 : goal.expression-returns-else-expression-2
expression-returns-else-expression-2 t c =
    let whole = same_at _ _ _ _ _ _ c.in-At-At.is-0 c.in-At-At.is-1 c.get-in-At-At.ensures c.get-in-At-At-2.ensures refl refl in
    (λ yes. absurd (false≢true (sym c.if-expression-2.false ∙ yes)), λ same. c.expression-in-At-At.ensures.1 (whole.1 same).0)

pub expression-returns-then-expression-4 : goal.expression-returns-then-expression-4
expression-returns-then-expression-4 t c =
    let whole = same_pick _ _ _ _ _ _ _ _ c.in-Pick-Pick.is-0 c.in-Pick-Pick.is-1 c.get-in-Pick-Pick.ensures c.get-in-Pick-Pick-2.ensures
    c.get-then-expression-3.ensures c.get-then-expression-3-2.ensures c.get-then-expression-4.ensures c.get-then-expression-4-2.ensures in
    let first = c.expression-in-Pick-Pick.ensures.0 c.if-expression-3.true in
    let second = c.expression-then-expression-3.ensures.0 c.if-expression-4.true in
    (λ yes. whole.0 (first, second, c.expression-then-expression-4.ensures.0 yes), λ same. c.expression-then-expression-4.ensures.1 (whole.1 same).2)

pub expression-returns-else-expression-4 : goal.expression-returns-else-expression-4
expression-returns-else-expression-4 t c =
    let whole = same_pick _ _ _ _ _ _ _ _ c.in-Pick-Pick.is-0 c.in-Pick-Pick.is-1 c.get-in-Pick-Pick.ensures c.get-in-Pick-Pick-2.ensures
    c.get-then-expression-3.ensures c.get-then-expression-3-2.ensures refl refl in
    (λ yes. absurd (false≢true (sym c.if-expression-4.false ∙ yes)), λ same. c.expression-then-expression-3.ensures.1 (whole.1 same).1)

pub expression-returns-else-expression-3 : goal.expression-returns-else-expression-3
expression-returns-else-expression-3 t c =
    let whole = same_pick _ _ _ _ _ _ _ _ c.in-Pick-Pick.is-0 c.in-Pick-Pick.is-1 c.get-in-Pick-Pick.ensures c.get-in-Pick-Pick-2.ensures
    refl refl refl refl in
    (λ yes. absurd (false≢true (sym c.if-expression-3.false ∙ yes)), λ same. c.expression-in-Pick-Pick.ensures.1 (whole.1 same).0)

pub expressions-returns-in_default : goal.expressions-returns-in_default
expressions-returns-in_default t c =
    shorter bare c.args.a.now c.loop-one.one-index c.loop-one.rest.now c.loop-one.invariant c.one-item.result
    c.loop-one-test.true c.one-item.is c.in_default.ensures.cases

pub expressions-returns-then-not-expression : goal.expressions-returns-then-not-expression
expressions-returns-then-not-expression t c =
    differ bare c.args.a.now c.loop-one.one-index c.loop-one.rest.now c.loop-one.invariant
    c.one-item.result c.in-Some.other.now c.in-Some.others.now c.expression.result c.loop-one-test.true c.one-item.is
    c.in-Some.ensures.cases.0 c.if-not-expression.true c.expression.ensures

pub expressions-loop-one-preserved : goal.expressions-loop-one-preserved
expressions-loop-one-preserved t c =
    next bare c.args.a.now c.loop-one.one-index c.loop-one.rest.now c.loop-one.invariant
    c.one-item.result c.in-Some.other.now c.in-Some.others.now c.loop-one-test.true c.one-item.is c.in-Some.ensures.cases.0
    (c.expression.ensures.0 c.if-not-expression.false)

pub expressions-returns : goal.expressions-returns
expressions-returns t c =
    ends bare c.args.a.now c.loop-one.one-index c.loop-one.rest.now c.loop-one.invariant
    c.is_empty.result c.is_empty.ensures c.loop-one-test.false

pub call-returns-then-name : goal.call-returns-then-name
call-returns-then-name t c = (
  λ yes. (
    c.name.ensures.0 c.if-name.true,
    sym (ap (map bare) c.as_slice.ensures) ∙ c.expressions.ensures.0 yes ∙ ap (map bare) c.as_slice-then-name.ensures,
  ),
  λ same. c.expressions.ensures.1 (ap (map bare) c.as_slice.ensures ∙ same.1 ∙ sym (ap (map bare) c.as_slice-then-name.ensures)),
)

pub call-returns-else-name : goal.call-returns-else-name
call-returns-else-name t c = (λ yes. absurd (false≢true (sym c.if-name.false ∙ yes)), λ same. c.name.ensures.1 same.0)

pub sized-returns-then-number : goal.sized-returns-then-number
sized-returns-then-number t c = (
  λ yes. (c.number.ensures.0 c.if-number.true, sym (ap bare c.get.ensures) ∙ c.expression.ensures.0 yes ∙ ap bare c.get-then-number.ensures),
  λ same. c.expression.ensures.1 (ap bare c.get.ensures ∙ same.1 ∙ sym (ap bare c.get-then-number.ensures)),
)

pub sized-returns-else-number : goal.sized-returns-else-number
sized-returns-else-number t c = (λ yes. absurd (false≢true (sym c.if-number.false ∙ yes)), λ same. c.number.ensures.1 same.0)

pub expression-returns-in-Constant-Constant : goal.expression-returns-in-Constant-Constant
expression-returns-in-Constant-Constant t c =
    let whole = same_constant _ _ _ _ c.in-Constant-Constant.is-0 c.in-Constant-Constant.is-1 in
    (λ yes. whole.0 (c.numbers.ensures.0 yes), λ same. c.numbers.ensures.1 (whole.1 same))

pub expression-returns-in-Low-Low : goal.expression-returns-in-Low-Low
expression-returns-in-Low-Low t c =
    let whole = same_low _ _ _ _ c.in-Low-Low.is-0 c.in-Low-Low.is-1 in
    (λ yes. whole.0 (c.name.ensures.0 yes), λ same. c.name.ensures.1 (whole.1 same))

pub expression-returns-in-Variable-Variable : goal.expression-returns-in-Variable-Variable
expression-returns-in-Variable-Variable t c =
    let whole = same_variable _ _ c.in-Variable-Variable.is-0 c.in-Variable-Variable.is-1 in
    (λ yes. whole.0 (c.name-in-Variable-Variable.ensures.0 yes), λ same. c.name-in-Variable-Variable.ensures.1 (whole.1 same))

pub expression-returns-else-operator : goal.expression-returns-else-operator
expression-returns-else-operator t c =
    let whole = same_binary _ _ _ _ _ _ _ _ _ _ c.in-Binary-Binary.is-0 c.in-Binary-Binary.is-1 refl refl refl refl in
    (λ yes. absurd (false≢true (sym c.if-operator.false ∙ yes)), λ same. c.operator.ensures.1 (whole.1 same).0)

pub expression-returns-else-bound : goal.expression-returns-else-bound
expression-returns-else-bound t c =
    let whole = same_quantified _ _ _ _ _ _ _ _ _ _ _ _ c.in-Quantified-Quantified.is-0 c.in-Quantified-Quantified.is-1 refl refl in
    (λ yes. absurd (false≢true (sym c.if-bound.false ∙ yes)), λ same. c.bound.ensures.1 (whole.1 same).0)

pub expressions-loop-one-init : goal.expressions-loop-one-init
expressions-loop-one-init t c = (λ same. same, λ same. same)

pub expression-returns-in_default : goal.expression-returns-in_default
expression-returns-in_default t c =
    apart c.args.b.now (Expr-F.Constant _ _) (c.in_default.is-0 ∙ sym (expr.rolls-Constant _ _)) c.in_default.not-Constant-1

pub expression-returns-in_default-2 : goal.expression-returns-in_default-2
expression-returns-in_default-2 t c =
    apart c.args.b.now (Expr-F.Low _ _) (c.in_default.is-0 ∙ sym (expr.rolls-Low _ _)) c.in_default.not-Low-1

pub expression-returns-in_default-3 : goal.expression-returns-in_default-3
expression-returns-in_default-3 t c =
    apart c.args.b.now (Expr-F.Variable _) (c.in_default.is-0 ∙ sym (expr.rolls-Variable _)) c.in_default.not-Variable-1

pub expression-returns-in_default-4 : goal.expression-returns-in_default-4
expression-returns-in_default-4 t c =
    apart c.args.b.now (Expr-F.Apply _ _) (c.in_default.is-0 ∙ sym (expr.rolls-Apply _ _)) c.in_default.not-Apply-1

pub expression-returns-in_default-5 : goal.expression-returns-in_default-5
expression-returns-in_default-5 t c =
    apart c.args.b.now (Expr-F.Binary _ _ _ _ _) (c.in_default.is-0 ∙ sym (expr.rolls-Binary _ _ _ _ _)) c.in_default.not-Binary-1

pub expression-returns-in_default-6 : goal.expression-returns-in_default-6
expression-returns-in_default-6 t c =
    apart c.args.b.now (Expr-F.Not _ _) (c.in_default.is-0 ∙ sym (expr.rolls-Not _ _)) c.in_default.not-Not-1

pub expression-returns-in_default-7 : goal.expression-returns-in_default-7
expression-returns-in_default-7 t c =
    apart c.args.b.now (Expr-F.At _ _ _) (c.in_default.is-0 ∙ sym (expr.rolls-At _ _ _)) c.in_default.not-At-1

pub expression-returns-in_default-8 : goal.expression-returns-in_default-8
expression-returns-in_default-8 t c =
    apart c.args.b.now (Expr-F.Pick _ _ _ _) (c.in_default.is-0 ∙ sym (expr.rolls-Pick _ _ _ _)) c.in_default.not-Pick-1

pub expression-returns-in_default-9 : goal.expression-returns-in_default-9
expression-returns-in_default-9 t c =
    apart c.args.b.now (Expr-F.Resize _ _ _) (c.in_default.is-0 ∙ sym (expr.rolls-Resize _ _ _)) c.in_default.not-Resize-1

pub expression-returns-in_default-10 : goal.expression-returns-in_default-10
expression-returns-in_default-10 t c =
    apart c.args.b.now (Expr-F.Fill _ _ _) (c.in_default.is-0 ∙ sym (expr.rolls-Fill _ _ _)) c.in_default.not-Fill-1

pub expression-returns-in_default-11 : goal.expression-returns-in_default-11
expression-returns-in_default-11 t c =
    apart c.args.b.now (Expr-F.Row _ _) (c.in_default.is-0 ∙ sym (expr.rolls-Row _ _)) c.in_default.not-Row-1

pub expression-returns-in_default-12 : goal.expression-returns-in_default-12
expression-returns-in_default-12 t c =
    apart c.args.b.now (Expr-F.Quantified _ _ _ _ _ _) (c.in_default.is-0 ∙ sym (expr.rolls-Quantified _ _ _ _ _ _)) c.in_default.not-Quantified-1
