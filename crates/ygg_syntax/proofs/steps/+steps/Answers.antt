use Rattle.std.proofs.Common.{◌-◌, refl, sym, ap, ◌∙◌}
use Rattle.std.proofs.Math.Nat.{le_refl, le_trans}
use Rattle.ygg_syntax.specs.Choices.{stmt_steps}
use Rattle.ygg_syntax.proofs.Spent.{both_taken, next, all, within}
use Rattle.ygg_syntax.proofs.Counted.{counted_let, counted_assign, counted_if, counted_for, counted_call}
use Rattle.ygg_syntax.proofs.steps.+steps.Goals as goal

pub statement-returns-in-Let : goal.statement-returns-in-Let
statement-returns-in-Let t c =
    c.source.ensures ∙ ap (λ n. c.args.left - n) (sym (counted_let c.args.choice c.args.call _ _ c.in-Let.is))

pub statement-returns-in-Assign : goal.statement-returns-in-Assign
statement-returns-in-Assign t c =
    c.source-in-Assign.ensures ∙ ap (λ n. c.args.left - n) (sym (counted_assign c.args.choice c.args.call _ _ _ c.in-Assign.is))

pub statement-returns-in-If : goal.statement-returns-in-If
statement-returns-in-If t c =
    let whole = counted_if c.args.choice c.args.call _ _ _ c.in-If.is c.as_slice.ensures c.as_slice-in-If.ensures in
    both_taken _ _ _ c.statements-rest.ensures c.statements.ensures ∙ ap (λ n. c.args.left - n) (sym whole)

pub statement-repeated-requires-clause-within : goal.statement-repeated-requires-clause-within
statement-repeated-requires-clause-within t c = c.requires

pub statement-repeated-requires-clause-less : goal.statement-repeated-requires-clause-less
statement-repeated-requires-clause-less t c = within _ c.statements-after_one.ensures

pub statement-returns-in-For : goal.statement-returns-in-For
statement-returns-in-For t c =
    let whole = counted_for c.args.choice c.args.call _ _ _ _ c.in-For.is c.as_slice-in-For.ensures in
    c.repeated.ensures _ c.statements-after_one.ensures ∙ ap (λ n. c.args.left - n) (sym whole)

pub statement-returns-in-Call : goal.statement-returns-in-Call
statement-returns-in-Call t c =
    c.saturating_sub.ensures ∙ ap (λ n. c.args.left - n) (sym (counted_call c.args.choice c.args.call _ _ c.in-Call.is))

pub statements-loop-one-init : goal.statements-loop-one-init
statements-loop-one-init t c = record { same = refl; within = le_refl _ }

pub statements-loop-one-preserved : goal.statements-loop-one-preserved
statements-loop-one-preserved t c = record {
  same = next (stmt_steps c.args.choice c.args.call) c.args.statements.now c.loop-one.one-index c.one-item.result c.loop-one.rest c.loop-one-test.true
      c.one-item.is c.statement-rest.ensures c.loop-one.invariant.same;
  within = le_trans (within _ c.statement-rest.ensures) c.loop-one.invariant.within;
}

pub statements-returns : goal.statements-returns
statements-returns t c =
    all (stmt_steps c.args.choice c.args.call) c.args.statements.now c.loop-one.one-index c.loop-one.rest c.loop-one-test.false c.loop-one.invariant.same
