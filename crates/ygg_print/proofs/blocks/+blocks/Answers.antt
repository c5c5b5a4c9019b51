use Rattle.std.proofs.lemmas.Result.{IfOk-from_err}
use Rattle.ygg_print.specs.PrintedBlocks.{stmt_printed}
use Rattle.ygg_print.proofs.Behind.{same, behind}
use Rattle.ygg_print.proofs.StatementParts.{bound, assigned, called}
use Rattle.ygg_print.proofs.blocks.+blocks.Goals as goal

pub block-returns-in_err-symbol : goal.block-returns-in_err-symbol
block-returns-in_err-symbol t c = IfOk-from_err c.from_residual.result _ c.from_residual.ensures.0

pub block-returns-in_err-statements : goal.block-returns-in_err-statements
block-returns-in_err-statements t c = IfOk-from_err c.from_residual-in_err-statements.result _ c.from_residual-in_err-statements.ensures.0

pub block-returns-in_err-answer : goal.block-returns-in_err-answer
block-returns-in_err-answer t c = IfOk-from_err c.from_residual-in_err-answer.result _ c.from_residual-in_err-answer.ensures.0

pub else_part-returns-in_err-keyword : goal.else_part-returns-in_err-keyword
else_part-returns-in_err-keyword t c = IfOk-from_err c.from_residual.result _ c.from_residual.ensures.0

pub statement-returns-in_err-titled-in-Let : goal.statement-returns-in_err-titled-in-Let
statement-returns-in_err-titled-in-Let t c = IfOk-from_err c.from_residual.result _ c.from_residual.ensures.0

pub statement-returns-in_err-name-in-Assign : goal.statement-returns-in_err-name-in-Assign
statement-returns-in_err-name-in-Assign t c = IfOk-from_err c.from_residual-in_err-name-in-Assign.result _ c.from_residual-in_err-name-in-Assign.ensures.0

pub statement-returns-in_err-indices-in-Assign : goal.statement-returns-in_err-indices-in-Assign
statement-returns-in_err-indices-in-Assign t c =
    IfOk-from_err c.from_residual-in_err-indices-in-Assign.result _ c.from_residual-in_err-indices-in-Assign.ensures.0

pub statement-returns-in_err-keyword-in-If : goal.statement-returns-in_err-keyword-in-If
statement-returns-in_err-keyword-in-If t c = IfOk-from_err c.from_residual-in_err-keyword-in-If.result _ c.from_residual-in_err-keyword-in-If.ensures.0

pub statement-returns-in_err-expression-in-If : goal.statement-returns-in_err-expression-in-If
statement-returns-in_err-expression-in-If t c =
    IfOk-from_err c.from_residual-in_err-expression-in-If.result _ c.from_residual-in_err-expression-in-If.ensures.0

pub statement-returns-in_err-block-in-If : goal.statement-returns-in_err-block-in-If
statement-returns-in_err-block-in-If t c = IfOk-from_err c.from_residual-in_err-block-in-If.result _ c.from_residual-in_err-block-in-If.ensures.0

pub statement-returns-in_err-keyword-in-For : goal.statement-returns-in_err-keyword-in-For
statement-returns-in_err-keyword-in-For t c = IfOk-from_err c.from_residual-in_err-keyword-in-For.result _ c.from_residual-in_err-keyword-in-For.ensures.0

pub statement-returns-in_err-range-in-For : goal.statement-returns-in_err-range-in-For
statement-returns-in_err-range-in-For t c = IfOk-from_err c.from_residual-in_err-range-in-For.result _ c.from_residual-in_err-range-in-For.ensures.0

pub statement-returns-in_err-call-in-Call : goal.statement-returns-in_err-call-in-Call
statement-returns-in_err-call-in-Call t c = IfOk-from_err c.from_residual-in_err-call-in-Call.result _ c.from_residual-in_err-call-in-Call.ensures.0

pub statements-returns-in_err-statement : goal.statements-returns-in_err-statement
statements-returns-in_err-statement t c = IfOk-from_err c.from_residual.result _ c.from_residual.ensures.0

pub statement-returns-in_ok-titled-in-Let : goal.statement-returns-in_ok-titled-in-Let
statement-returns-in_ok-titled-in-Let t c =
    same c.assigned.result c.assigned.new.printer c.args.printer.now _ (stmt_printed c.args.statement.now)
    (bound _ _ c.in-Let.is)
    (behind c.assigned.result c.assigned.new.printer c.titled.new.self c.args.printer.now _ _ c.in_ok-titled-in-Let.ensures
    c.assigned.ensures)

pub statement-returns-in_ok-indices-in-Assign : goal.statement-returns-in_ok-indices-in-Assign
statement-returns-in_ok-indices-in-Assign t c =
    same c.assigned-in-Assign.result c.assigned-in-Assign.new.printer c.args.printer.now _ (stmt_printed c.args.statement.now)
    (assigned _ _ c.as_slice.result.now _ c.in-Assign.is c.as_slice.ensures)
    (behind c.assigned-in-Assign.result c.assigned-in-Assign.new.printer c.name.new.self c.args.printer.now _ _ c.in_ok-name-in-Assign.ensures
    (behind c.assigned-in-Assign.result c.assigned-in-Assign.new.printer c.indices.new.printer c.name.new.self _ _ c.in_ok-indices-in-Assign.ensures
    c.assigned-in-Assign.ensures))

pub statement-returns-in_ok-call-in-Call : goal.statement-returns-in_ok-call-in-Call
statement-returns-in_ok-call-in-Call t c =
    same c.symbol.result c.symbol.new.self c.args.printer.now _ (stmt_printed c.args.statement.now)
    (called _ _ c.as_slice-in-Call.result.now c.in-Call.is c.as_slice-in-Call.ensures)
    (behind c.symbol.result c.symbol.new.self c.call.new.printer c.args.printer.now _ _ c.in_ok-call-in-Call.ensures
    c.symbol.ensures)
