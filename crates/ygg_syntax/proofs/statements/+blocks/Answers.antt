use Rattle.std.proofs.Common.{refl, sym, ◌∙◌}
use Rattle.std.proofs.lemmas.Bool.{false≢true}
use Rattle.ygg_syntax.specs.Bare.{bare_statement}
use Rattle.ygg_syntax.proofs.Paired.{next, differ, shorter, ends}
use Rattle.ygg_syntax.proofs.Sames.{same_if, same_for, same_let, same_assign, same_call}
use Rattle.ygg_syntax.specs.declared.tree.Stmt.TheVariants as stmt
use Rattle.ygg_syntax.specs.declared.tree.Stmt.TheOpen.{Stmt-F}
use Rattle.ygg_syntax.proofs.Apart.{statement_apart}
use Rattle.ygg_syntax.proofs.statements.+blocks.Goals as goal

pub statement-returns-then-block : goal.statement-returns-then-block
statement-returns-then-block t c =
    let whole = same_if _ _ _ _ _ _ c.in-If-If.is-0 c.in-If-If.is-1 in
    let first = c.expression.ensures.0 c.if-expression.true in
    let second = c.block.ensures.0 c.if-block.true in
    (λ yes. whole.0 (first, second, c.block-then-block.ensures.0 yes), λ same. c.block-then-block.ensures.1 (whole.1 same).2)

pub statement-returns-else-block : goal.statement-returns-else-block
statement-returns-else-block t c =
    let whole = same_if _ _ _ _ _ _ c.in-If-If.is-0 c.in-If-If.is-1 in
    (λ yes. absurd (false≢true (sym c.if-block.false ∙ yes)), λ same. c.block.ensures.1 (whole.1 same).1)

pub statement-returns-else-expression : goal.statement-returns-else-expression
statement-returns-else-expression t c =
    let whole = same_if _ _ _ _ _ _ c.in-If-If.is-0 c.in-If-If.is-1 in
    (λ yes. absurd (false≢true (sym c.if-expression.false ∙ yes)), λ same. c.expression.ensures.1 (whole.1 same).0)

pub statement-returns-then-range : goal.statement-returns-then-range
statement-returns-then-range t c =
    let whole = same_for _ _ _ _ _ _ _ _ c.in-For-For.is-0 c.in-For-For.is-1 in
    let first = c.range.ensures.0 c.if-range.true in
    (λ yes. whole.0 (first, c.block-then-range.ensures.0 yes), λ same. c.block-then-range.ensures.1 (whole.1 same).1)

pub statements-returns-in_default : goal.statements-returns-in_default
statements-returns-in_default t c =
    shorter bare_statement c.args.a.now c.loop-one.one-index c.loop-one.rest.now c.loop-one.invariant c.one-item.result
    c.loop-one-test.true c.one-item.is c.in_default.ensures.cases

pub statements-returns-then-not-statement : goal.statements-returns-then-not-statement
statements-returns-then-not-statement t c =
    differ bare_statement c.args.a.now c.loop-one.one-index c.loop-one.rest.now c.loop-one.invariant
    c.one-item.result c.in-Some.other.now c.in-Some.others.now c.statement.result c.loop-one-test.true c.one-item.is
    c.in-Some.ensures.cases.0 c.if-not-statement.true c.statement.ensures

pub statements-loop-one-preserved : goal.statements-loop-one-preserved
statements-loop-one-preserved t c =
    next bare_statement c.args.a.now c.loop-one.one-index c.loop-one.rest.now c.loop-one.invariant
    c.one-item.result c.in-Some.other.now c.in-Some.others.now c.loop-one-test.true c.one-item.is c.in-Some.ensures.cases.0
    (c.statement.ensures.0 c.if-not-statement.false)

pub statements-returns : goal.statements-returns
statements-returns t c =
    ends bare_statement c.args.a.now c.loop-one.one-index c.loop-one.rest.now c.loop-one.invariant
    c.is_empty.result c.is_empty.ensures c.loop-one-test.false

pub statement-returns-then-name : goal.statement-returns-then-name
statement-returns-then-name t c =
    let whole = same_let _ _ _ _ c.in-Let-Let.is-0 c.in-Let-Let.is-1 in
    (λ yes. whole.0 (c.name.ensures.0 c.if-name.true, c.source.ensures.0 yes), λ same. c.source.ensures.1 (whole.1 same).1)

pub statement-returns-else-name : goal.statement-returns-else-name
statement-returns-else-name t c =
    let whole = same_let _ _ _ _ c.in-Let-Let.is-0 c.in-Let-Let.is-1 in
    (λ yes. absurd (false≢true (sym c.if-name.false ∙ yes)), λ same. c.name.ensures.1 (whole.1 same).0)

pub statement-returns-then-items : goal.statement-returns-then-items
statement-returns-then-items t c =
    let whole = same_assign _ _ _ _ _ _ c.in-Assign-Assign.is-0 c.in-Assign-Assign.is-1 c.as_slice.ensures c.as_slice-then-name-2.ensures in
    let first = c.name-in-Assign-Assign.ensures.0 c.if-name-2.true in
    let second = c.items.ensures.0 c.if-items.true in
    (λ yes. whole.0 (first, second, c.source-then-items.ensures.0 yes), λ same. c.source-then-items.ensures.1 (whole.1 same).2)

pub statement-returns-else-items : goal.statement-returns-else-items
statement-returns-else-items t c =
    let whole = same_assign _ _ _ _ _ _ c.in-Assign-Assign.is-0 c.in-Assign-Assign.is-1 c.as_slice.ensures c.as_slice-then-name-2.ensures in
    (λ yes. absurd (false≢true (sym c.if-items.false ∙ yes)), λ same. c.items.ensures.1 (whole.1 same).1)

pub statement-returns-else-name-2 : goal.statement-returns-else-name-2
statement-returns-else-name-2 t c =
    let whole = same_assign _ _ _ _ _ _ c.in-Assign-Assign.is-0 c.in-Assign-Assign.is-1 refl refl in
    (λ yes. absurd (false≢true (sym c.if-name-2.false ∙ yes)), λ same. c.name-in-Assign-Assign.ensures.1 (whole.1 same).0)

pub statement-returns-else-range : goal.statement-returns-else-range
statement-returns-else-range t c =
    let whole = same_for _ _ _ _ _ _ _ _ c.in-For-For.is-0 c.in-For-For.is-1 in
    (λ yes. absurd (false≢true (sym c.if-range.false ∙ yes)), λ same. c.range.ensures.1 (whole.1 same).0)

pub statement-returns-in-Call-Call : goal.statement-returns-in-Call-Call
statement-returns-in-Call-Call t c =
    let whole = same_call _ _ _ _ c.in-Call-Call.is-0 c.in-Call-Call.is-1 in
    (λ yes. whole.0 (c.call.ensures.0 yes), λ same. c.call.ensures.1 (whole.1 same))

pub statements-loop-one-init : goal.statements-loop-one-init
statements-loop-one-init t c = (λ same. same, λ same. same)

pub statement-returns-in_default : goal.statement-returns-in_default
statement-returns-in_default t c =
    statement_apart c.args.b.now (Stmt-F.Let _ _) (c.in_default.is-0 ∙ sym (stmt.rolls-Let _ _)) c.in_default.not-Let-1

pub statement-returns-in_default-2 : goal.statement-returns-in_default-2
statement-returns-in_default-2 t c =
    statement_apart c.args.b.now (Stmt-F.Assign _ _ _) (c.in_default.is-0 ∙ sym (stmt.rolls-Assign _ _ _)) c.in_default.not-Assign-1

pub statement-returns-in_default-3 : goal.statement-returns-in_default-3
statement-returns-in_default-3 t c =
    statement_apart c.args.b.now (Stmt-F.If _ _ _) (c.in_default.is-0 ∙ sym (stmt.rolls-If _ _ _)) c.in_default.not-If-1

pub statement-returns-in_default-4 : goal.statement-returns-in_default-4
statement-returns-in_default-4 t c =
    statement_apart c.args.b.now (Stmt-F.For _ _ _ _) (c.in_default.is-0 ∙ sym (stmt.rolls-For _ _ _ _)) c.in_default.not-For-1

pub statement-returns-in_default-5 : goal.statement-returns-in_default-5
statement-returns-in_default-5 t c =
    statement_apart c.args.b.now (Stmt-F.Call _ _) (c.in_default.is-0 ∙ sym (stmt.rolls-Call _ _)) c.in_default.not-Call-1
