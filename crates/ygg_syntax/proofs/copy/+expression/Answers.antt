use Rattle.std.proofs.Common.{◌++◌, List, sym, ap, ◌∙◌}
use Rattle.ygg_syntax.specs.declared.tree.Name.{Name}
use Rattle.ygg_syntax.specs.declared.tree.Expr.{Expr}
use Rattle.ygg_syntax.specs.declared.tree.Expr.TheVariants as expr
use Rattle.ygg_syntax.proofs.Copied.{copied, of_one, of_two, one_copied, all_copied}
use Rattle.ygg_syntax.proofs.copy.+expression.Goals as goal

pub expression-returns-in-Constant : goal.expression-returns-in-Constant
expression-returns-in-Constant t c = sym c.in-Constant.is

pub expression-returns-in-Ok : goal.expression-returns-in-Ok
expression-returns-in-Ok t c = of_one (λ (x : Name). expr.Low c.in-Low.first x) c.in-Ok.ensures c.in-Low.is

pub expression-returns-in-Ok-duplicate : goal.expression-returns-in-Ok-duplicate
expression-returns-in-Ok-duplicate t c = of_one (λ (x : Name). expr.Variable x) c.in-Ok-duplicate.ensures c.in-Variable.is

pub expression-returns-in-Ok-both : goal.expression-returns-in-Ok-both
expression-returns-in-Ok-both t c =
    let parts = c.in-Ok-both.ensures in
    of_two (λ (f : Name) (es : List Expr). expr.Apply f es) (copied c.duplicate-in-Apply.ensures parts.0)
    (copied c.expressions-arguments.ensures parts.1 ∙ c.as_slice.ensures) c.in-Apply.is

pub expression-returns-in-Ok-both-2 : goal.expression-returns-in-Ok-both-2
expression-returns-in-Ok-both-2 t c =
    let parts = c.in-Ok-both-2.ensures in
    of_two (λ (l r : Expr). expr.Binary c.in-Binary.first l c.in-Binary.operator c.in-Binary.place r) (copied c.boxed.ensures parts.0 ∙ c.get.ensures)
    (copied c.boxed-in-Binary.ensures parts.1 ∙ c.get-in-Binary.ensures) c.in-Binary.is

pub expression-returns-in-Ok-boxed : goal.expression-returns-in-Ok-boxed
expression-returns-in-Ok-boxed t c =
    of_one (λ (e : Expr). expr.Not c.in-Not.first e) (c.in-Ok-boxed.ensures ∙ c.get-in-Not.ensures) c.in-Not.is

pub expression-returns-in-Ok-both-3 : goal.expression-returns-in-Ok-both-3
expression-returns-in-Ok-both-3 t c =
    let parts = c.in-Ok-both-3.ensures in
    of_two (λ (l r : Expr). expr.At l c.in-At.bracket r) (copied c.boxed-in-At.ensures parts.0 ∙ c.get-in-At.ensures)
    (copied c.boxed-in-At-2.ensures parts.1 ∙ c.get-in-At-2.ensures) c.in-At.is

pub expression-returns-in-Ok-boxed-2 : goal.expression-returns-in-Ok-boxed-2
expression-returns-in-Ok-boxed-2 t c =
    of_one (λ (e : Expr). expr.Resize c.in-Resize.first e c.in-Resize.width) (c.in-Ok-boxed-2.ensures ∙ c.get-in-Resize.ensures) c.in-Resize.is

pub expression-returns-in-Ok-boxed-3 : goal.expression-returns-in-Ok-boxed-3
expression-returns-in-Ok-boxed-3 t c =
    of_one (λ (e : Expr). expr.Fill c.in-Fill.first c.in-Fill.count e) (c.in-Ok-boxed-3.ensures ∙ c.get-in-Fill.ensures) c.in-Fill.is

pub expression-returns-in-Ok-expressions : goal.expression-returns-in-Ok-expressions
expression-returns-in-Ok-expressions t c =
    of_one (λ (es : List Expr). expr.Row c.in-Row.first es) (c.in-Ok-expressions.ensures ∙ c.as_slice-in-Row.ensures) c.in-Row.is

pub expression-returns-in-Ok-both-5 : goal.expression-returns-in-Ok-both-5
expression-returns-in-Ok-both-5 t c =
    let parts = c.in-Ok-both-5.ensures in
    of_two
    (λ (x : Name) (e : Expr). expr.Quantified c.in-Quantified.first c.in-Quantified.quantifier x c.in-Quantified.width c.in-Quantified.bound e)
    (copied c.duplicate-in-Quantified.ensures parts.0) (copied c.boxed-in-Quantified.ensures parts.1 ∙ c.get-in-Quantified.ensures) c.in-Quantified.is

pub expressions-loop-e-init : goal.expressions-loop-e-init
expressions-loop-e-init t c = ap (λ (es : List Expr). es ++ c.args.expressions.now) c.new-copies.ensures

pub expressions-loop-e-preserved : goal.expressions-loop-e-preserved
expressions-loop-e-preserved t c =
    let step = c.in-Ok.ensures in
    one_copied c.args.expressions.now c.loop-e.e-index c.e-item.result step.0 c.loop-e.copies c.loop-e-test.true c.e-item.is
    (copied c.expression.ensures step.1) step.2 c.loop-e.invariant

pub expressions-returns : goal.expressions-returns
expressions-returns t c = all_copied c.args.expressions.now c.loop-e.e-index c.loop-e.copies c.loop-e-test.false c.loop-e.invariant
