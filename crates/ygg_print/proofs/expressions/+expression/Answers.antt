use Rattle.std.proofs.lemmas.Result.{IfOk-from_err}
use Rattle.ygg_print.specs.Printed.{printed}
use Rattle.ygg_print.proofs.Behind.{same, behind}
use Rattle.ygg_print.proofs.ExpressionParts.{
  constant,
  low,
  variable,
  apply,
  row,
  binary,
  negation,
  indexed,
  pick,
  resize,
  fill,
  quantified,
}
use Rattle.ygg_print.proofs.expressions.+expression.Goals as goal

pub bracketed-returns-in_err-symbol : goal.bracketed-returns-in_err-symbol
bracketed-returns-in_err-symbol t c = IfOk-from_err c.from_residual.result _ c.from_residual.ensures.0

pub bracketed-returns-in_err-list : goal.bracketed-returns-in_err-list
bracketed-returns-in_err-list t c = IfOk-from_err c.from_residual-in_err-list.result _ c.from_residual-in_err-list.ensures.0

pub expression-returns-in_err-tokens-in-Low : goal.expression-returns-in_err-tokens-in-Low
expression-returns-in_err-tokens-in-Low t c = IfOk-from_err c.from_residual.result _ c.from_residual.ensures.0

pub expression-returns-in_err-name-in-Apply : goal.expression-returns-in_err-name-in-Apply
expression-returns-in_err-name-in-Apply t c = IfOk-from_err c.from_residual-in_err-name-in-Apply.result _ c.from_residual-in_err-name-in-Apply.ensures.0

pub expression-returns-in_err-symbol-in-Binary : goal.expression-returns-in_err-symbol-in-Binary
expression-returns-in_err-symbol-in-Binary t c =
    IfOk-from_err c.from_residual-in_err-symbol-in-Binary.result _ c.from_residual-in_err-symbol-in-Binary.ensures.0

pub expression-returns-in_err-expression_then-in-Binary : goal.expression-returns-in_err-expression_then-in-Binary
expression-returns-in_err-expression_then-in-Binary t c =
    IfOk-from_err c.from_residual-in_err-expression_then-in-Binary.result _ c.from_residual-in_err-expression_then-in-Binary.ensures.0

pub expression-returns-in_err-symbol-in-Not : goal.expression-returns-in_err-symbol-in-Not
expression-returns-in_err-symbol-in-Not t c = IfOk-from_err c.from_residual-in_err-symbol-in-Not.result _ c.from_residual-in_err-symbol-in-Not.ensures.0

pub expression-returns-in_err-expression_then-in-At : goal.expression-returns-in_err-expression_then-in-At
expression-returns-in_err-expression_then-in-At t c =
    IfOk-from_err c.from_residual-in_err-expression_then-in-At.result _ c.from_residual-in_err-expression_then-in-At.ensures.0

pub expression-returns-in_err-opened-in-Pick : goal.expression-returns-in_err-opened-in-Pick
expression-returns-in_err-opened-in-Pick t c = IfOk-from_err c.from_residual-in_err-opened-in-Pick.result _ c.from_residual-in_err-opened-in-Pick.ensures.0

pub expression-returns-in_err-expression_then-in-Pick : goal.expression-returns-in_err-expression_then-in-Pick
expression-returns-in_err-expression_then-in-Pick t c =
    IfOk-from_err c.from_residual-in_err-expression_then-in-Pick.result _ c.from_residual-in_err-expression_then-in-Pick.ensures.0

pub expression-returns-in_err-expression_then-in-Pick-2 : goal.expression-returns-in_err-expression_then-in-Pick-2
expression-returns-in_err-expression_then-in-Pick-2 t c =
    IfOk-from_err c.from_residual-in_err-expression_then-in-Pick-2.result _ c.from_residual-in_err-expression_then-in-Pick-2.ensures.0

pub expression-returns-in_err-opened-in-Resize : goal.expression-returns-in_err-opened-in-Resize
expression-returns-in_err-opened-in-Resize t c =
    IfOk-from_err c.from_residual-in_err-opened-in-Resize.result _ c.from_residual-in_err-opened-in-Resize.ensures.0

pub expression-returns-in_err-expression_then-in-Resize : goal.expression-returns-in_err-expression_then-in-Resize
expression-returns-in_err-expression_then-in-Resize t c =
    IfOk-from_err c.from_residual-in_err-expression_then-in-Resize.result _ c.from_residual-in_err-expression_then-in-Resize.ensures.0

pub expression-returns-in_err-opened-in-Fill : goal.expression-returns-in_err-opened-in-Fill
expression-returns-in_err-opened-in-Fill t c = IfOk-from_err c.from_residual-in_err-opened-in-Fill.result _ c.from_residual-in_err-opened-in-Fill.ensures.0

pub expression-returns-in_err-tokens-in-Fill : goal.expression-returns-in_err-tokens-in-Fill
expression-returns-in_err-tokens-in-Fill t c = IfOk-from_err c.from_residual-in_err-tokens-in-Fill.result _ c.from_residual-in_err-tokens-in-Fill.ensures.0

pub expression-returns-in_err-keyword-in-Row : goal.expression-returns-in_err-keyword-in-Row
expression-returns-in_err-keyword-in-Row t c = IfOk-from_err c.from_residual-in_err-keyword-in-Row.result _ c.from_residual-in_err-keyword-in-Row.ensures.0

pub expression-returns-in_err-opened-in-Quantified : goal.expression-returns-in_err-opened-in-Quantified
expression-returns-in_err-opened-in-Quantified t c =
    IfOk-from_err c.from_residual-in_err-opened-in-Quantified.result _ c.from_residual-in_err-opened-in-Quantified.ensures.0

pub expression-returns-in_err-range-in-Quantified : goal.expression-returns-in_err-range-in-Quantified
expression-returns-in_err-range-in-Quantified t c =
    IfOk-from_err c.from_residual-in_err-range-in-Quantified.result _ c.from_residual-in_err-range-in-Quantified.ensures.0

pub expression-returns-in_err-symbol-in-Quantified : goal.expression-returns-in_err-symbol-in-Quantified
expression-returns-in_err-symbol-in-Quantified t c =
    IfOk-from_err c.from_residual-in_err-symbol-in-Quantified.result _ c.from_residual-in_err-symbol-in-Quantified.ensures.0

pub expression_then-returns-in_err-expression : goal.expression_then-returns-in_err-expression
expression_then-returns-in_err-expression t c = IfOk-from_err c.from_residual.result _ c.from_residual.ensures.0

pub list-returns-in_err-expression : goal.list-returns-in_err-expression
list-returns-in_err-expression t c = IfOk-from_err c.from_residual.result _ c.from_residual.ensures.0

pub list-returns-in_err-symbol : goal.list-returns-in_err-symbol
list-returns-in_err-symbol t c = IfOk-from_err c.from_residual-in_err-symbol.result _ c.from_residual-in_err-symbol.ensures.0

pub list-returns-in_err-expression-2 : goal.list-returns-in_err-expression-2
list-returns-in_err-expression-2 t c = IfOk-from_err c.from_residual-in_err-expression-2.result _ c.from_residual-in_err-expression-2.ensures.0

pub expression-returns-in-Constant : goal.expression-returns-in-Constant
expression-returns-in-Constant t c =
    same c.tokens.result c.tokens.new.self c.args.printer.now _ (printed c.args.e.now)
    (constant _ _ c.in-Constant.is)
    c.tokens.ensures

pub expression-returns-in_ok-tokens-in-Low : goal.expression-returns-in_ok-tokens-in-Low
expression-returns-in_ok-tokens-in-Low t c =
    same c.name.result c.name.new.self c.args.printer.now _ (printed c.args.e.now)
    (low _ _ c.in-Low.is)
    (behind c.name.result c.name.new.self c.tokens-in-Low.new.self c.args.printer.now _ _ c.in_ok-tokens-in-Low.ensures
    c.name.ensures)

pub expression-returns-in-Variable : goal.expression-returns-in-Variable
expression-returns-in-Variable t c =
    same c.name-in-Variable.result c.name-in-Variable.new.self c.args.printer.now _ (printed c.args.e.now)
    (variable _ c.in-Variable.is)
    c.name-in-Variable.ensures

pub expression-returns-in_ok-name-in-Apply : goal.expression-returns-in_ok-name-in-Apply
expression-returns-in_ok-name-in-Apply t c =
    same c.bracketed.result c.bracketed.new.printer c.args.printer.now _ (printed c.args.e.now)
    (apply _ _ c.as_slice.result.now c.in-Apply.is c.as_slice.ensures)
    (behind c.bracketed.result c.bracketed.new.printer c.name-in-Apply.new.self c.args.printer.now _ _ c.in_ok-name-in-Apply.ensures
    c.bracketed.ensures)

pub expression-returns-in_ok-expression_then-in-Binary : goal.expression-returns-in_ok-expression_then-in-Binary
expression-returns-in_ok-expression_then-in-Binary t c =
    same c.expression_then-in-Binary.result c.expression_then-in-Binary.new.printer c.args.printer.now _ (printed c.args.e.now)
    (binary _ _ _ _ _ c.operator.result c.get.result.now c.get-in-Binary.result.now c.in-Binary.is c.operator.ensures c.get.ensures
    c.get-in-Binary.ensures)
    (behind c.expression_then-in-Binary.result c.expression_then-in-Binary.new.printer c.symbol.new.self c.args.printer.now _ _
    c.in_ok-symbol-in-Binary.ensures
    (behind c.expression_then-in-Binary.result c.expression_then-in-Binary.new.printer c.expression_then.new.printer c.symbol.new.self _ _
    c.in_ok-expression_then-in-Binary.ensures
    c.expression_then-in-Binary.ensures))

pub expression-returns-in_ok-symbol-in-Not : goal.expression-returns-in_ok-symbol-in-Not
expression-returns-in_ok-symbol-in-Not t c =
    same c.expression.result c.expression.new.printer c.args.printer.now _ (printed c.args.e.now)
    (negation _ _ c.get-in-Not.result.now c.in-Not.is c.get-in-Not.ensures)
    (behind c.expression.result c.expression.new.printer c.symbol-in-Not.new.self c.args.printer.now _ _ c.in_ok-symbol-in-Not.ensures
    c.expression.ensures)

pub expression-returns-in_ok-expression_then-in-At : goal.expression-returns-in_ok-expression_then-in-At
expression-returns-in_ok-expression_then-in-At t c =
    same c.expression_then-in-At-2.result c.expression_then-in-At-2.new.printer c.args.printer.now _ (printed c.args.e.now)
    (indexed _ _ _ c.get-in-At.result.now c.get-in-At-2.result.now c.in-At.is c.get-in-At.ensures c.get-in-At-2.ensures)
    (behind c.expression_then-in-At-2.result c.expression_then-in-At-2.new.printer c.expression_then-in-At.new.printer c.args.printer.now _ _
    c.in_ok-expression_then-in-At.ensures
    c.expression_then-in-At-2.ensures)

pub expression-returns-in_ok-expression_then-in-Pick-2 : goal.expression-returns-in_ok-expression_then-in-Pick-2
expression-returns-in_ok-expression_then-in-Pick-2 t c =
    same c.expression_then-in-Pick-3.result c.expression_then-in-Pick-3.new.printer c.args.printer.now _ (printed c.args.e.now)
    (pick _ _ _ _ c.get-in-Pick.result.now c.get-in-Pick-2.result.now c.get-in-Pick-3.result.now c.in-Pick.is c.get-in-Pick.ensures
    c.get-in-Pick-2.ensures c.get-in-Pick-3.ensures)
    (behind c.expression_then-in-Pick-3.result c.expression_then-in-Pick-3.new.printer c.opened.new.printer c.args.printer.now _ _
    c.in_ok-opened-in-Pick.ensures
    (behind c.expression_then-in-Pick-3.result c.expression_then-in-Pick-3.new.printer c.expression_then-in-Pick.new.printer c.opened.new.printer _ _
    c.in_ok-expression_then-in-Pick.ensures
    (behind c.expression_then-in-Pick-3.result c.expression_then-in-Pick-3.new.printer c.expression_then-in-Pick-2.new.printer
    c.expression_then-in-Pick.new.printer _ _ c.in_ok-expression_then-in-Pick-2.ensures
    c.expression_then-in-Pick-3.ensures)))

pub expression-returns-in_ok-expression_then-in-Resize : goal.expression-returns-in_ok-expression_then-in-Resize
expression-returns-in_ok-expression_then-in-Resize t c =
    same c.tokens-in-Resize.result c.tokens-in-Resize.new.self c.args.printer.now _ (printed c.args.e.now)
    (resize _ _ c.get-in-Resize.result.now _ c.in-Resize.is c.get-in-Resize.ensures)
    (behind c.tokens-in-Resize.result c.tokens-in-Resize.new.self c.opened-in-Resize.new.printer c.args.printer.now _ _ c.in_ok-opened-in-Resize.ensures
    (behind c.tokens-in-Resize.result c.tokens-in-Resize.new.self c.expression_then-in-Resize.new.printer c.opened-in-Resize.new.printer _ _
    c.in_ok-expression_then-in-Resize.ensures
    c.tokens-in-Resize.ensures))

pub expression-returns-in_ok-tokens-in-Fill : goal.expression-returns-in_ok-tokens-in-Fill
expression-returns-in_ok-tokens-in-Fill t c =
    same c.expression_then-in-Fill.result c.expression_then-in-Fill.new.printer c.args.printer.now _ (printed c.args.e.now)
    (fill _ _ _ c.get-in-Fill.result.now c.in-Fill.is c.get-in-Fill.ensures)
    (behind c.expression_then-in-Fill.result c.expression_then-in-Fill.new.printer c.opened-in-Fill.new.printer c.args.printer.now _ _
    c.in_ok-opened-in-Fill.ensures
    (behind c.expression_then-in-Fill.result c.expression_then-in-Fill.new.printer c.tokens-in-Fill.new.self c.opened-in-Fill.new.printer _ _
    c.in_ok-tokens-in-Fill.ensures
    c.expression_then-in-Fill.ensures))

pub expression-returns-in_ok-keyword-in-Row : goal.expression-returns-in_ok-keyword-in-Row
expression-returns-in_ok-keyword-in-Row t c =
    same c.bracketed-in-Row.result c.bracketed-in-Row.new.printer c.args.printer.now _ (printed c.args.e.now)
    (row _ _ c.as_slice-in-Row.result.now c.in-Row.is c.as_slice-in-Row.ensures)
    (behind c.bracketed-in-Row.result c.bracketed-in-Row.new.printer c.keyword.new.self c.args.printer.now _ _ c.in_ok-keyword-in-Row.ensures
    c.bracketed-in-Row.ensures)

pub expression-returns-in_ok-symbol-in-Quantified : goal.expression-returns-in_ok-symbol-in-Quantified
expression-returns-in_ok-symbol-in-Quantified t c =
    same c.expression_then-in-Quantified.result c.expression_then-in-Quantified.new.printer c.args.printer.now _ (printed c.args.e.now)
    (quantified _ _ _ _ _ _ c.get-in-Quantified.result.now c.quantifier.result c.in-Quantified.is c.quantifier.ensures c.get-in-Quantified.ensures)
    (behind c.expression_then-in-Quantified.result c.expression_then-in-Quantified.new.printer c.opened-in-Quantified.new.printer c.args.printer.now
    _ _ c.in_ok-opened-in-Quantified.ensures
    (behind c.expression_then-in-Quantified.result c.expression_then-in-Quantified.new.printer c.range.new.printer c.opened-in-Quantified.new.printer
    _ _ c.in_ok-range-in-Quantified.ensures
    (behind c.expression_then-in-Quantified.result c.expression_then-in-Quantified.new.printer c.symbol-in-Quantified.new.self c.range.new.printer _
    _ c.in_ok-symbol-in-Quantified.ensures
    c.expression_then-in-Quantified.ensures)))
