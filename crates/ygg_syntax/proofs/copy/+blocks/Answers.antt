use Rattle.std.proofs.Common.{◌++◌, List, Option, refl, ap, ◌∙◌}
use Rattle.ygg_syntax.specs.declared.tree.Name.{Name}
use Rattle.ygg_syntax.specs.declared.tree.Expr.{Expr}
use Rattle.ygg_syntax.specs.declared.tree.Source.{Source}
use Rattle.ygg_syntax.specs.declared.tree.Block.{Block}
use Rattle.ygg_syntax.specs.declared.tree.Stmt.{Stmt}
use Rattle.ygg_syntax.specs.declared.tree.Stmt.TheVariants as stmt
use Rattle.ygg_syntax.proofs.Copied.{copied, of_two, one_copied, all_copied}
use Rattle.ygg_syntax.proofs.copy.+blocks.Goals as goal

pub statements-loop-one-init : goal.statements-loop-one-init
statements-loop-one-init t c = ap (λ (ss : List Stmt). ss ++ c.args.statements.now) c.new-copies.ensures

pub statements-loop-one-preserved : goal.statements-loop-one-preserved
statements-loop-one-preserved t c =
    let step = c.in-Ok.ensures in
    one_copied c.args.statements.now c.loop-one.one-index c.one-item.result step.0 c.loop-one.copies c.loop-one-test.true c.one-item.is
    (copied c.statement.ensures step.1) step.2 c.loop-one.invariant

pub statements-returns : goal.statements-returns
statements-returns t c = all_copied c.args.statements.now c.loop-one.one-index c.loop-one.copies c.loop-one-test.false c.loop-one.invariant

pub block-returns-in-Ok : goal.block-returns-in-Ok
block-returns-in-Ok t c =
    let parts = c.in-Ok.ensures in
    let build : List Stmt → Option Expr → Block = λ ss a. record { place = c.args.block.now.place; statements = ss; answer = a } in
    of_two build (copied c.statements-statements.ensures parts.0 ∙ c.as_slice.ensures) (copied c.answer.ensures parts.1) refl

pub statement-returns-in-Ok : goal.statement-returns-in-Ok
statement-returns-in-Ok t c =
    let parts = c.in-Ok.ensures in
    of_two (λ (x : Name) (from : Source). stmt.Let x from) (copied c.duplicate.ensures parts.0) (copied c.source.ensures parts.1) c.in-Let.is

pub statement-returns-in-Ok-both-3 : goal.statement-returns-in-Ok-both-3
statement-returns-in-Ok-both-3 t c =
    let parts = c.in-Ok-both-3.ensures in
    of_two (λ (x : Name) (each : Block). stmt.For x c.in-For.width c.in-For.bound each) (copied c.duplicate-in-For.ensures parts.0)
    (copied c.block-in-For.ensures parts.1) c.in-For.is

pub statement-returns-in-Ok-both-4 : goal.statement-returns-in-Ok-both-4
statement-returns-in-Ok-both-4 t c =
    let parts = c.in-Ok-both-4.ensures in
    of_two (λ (x : Name) (es : List Expr). stmt.Call x es) (copied c.duplicate-in-Call.ensures parts.0)
    (copied c.items-arguments.ensures parts.1 ∙ c.as_slice-in-Call.ensures) c.in-Call.is
