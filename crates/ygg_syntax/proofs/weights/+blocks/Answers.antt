use Rattle.std.proofs.Common.{◌+◌, ◌-◌, List, sum, map, refl, ap, ◌∙◌}
use Rattle.std.proofs.Math.Nat.{le_refl, le_trans}
use Rattle.ygg_syntax.specs.declared.tree.Stmt.{Stmt}
use Rattle.ygg_syntax.specs.WeightSources.{known_weights}
use Rattle.ygg_syntax.specs.Weights.{stmt_weight, answer_weight}
use Rattle.ygg_syntax.proofs.Spent.{
  one_less,
  less,
  less_after_one,
  after_one,
  after_two,
  after_three,
  both_taken,
  next,
  all,
  spent,
  within,
  stepped,
}
use Rattle.ygg_syntax.proofs.WeighedStatements.{weighed_let, weighed_assign, weighed_if, weighed_for, weighed_call}
use Rattle.ygg_syntax.proofs.weights.+blocks.Goals as goal

pub block-answer-requires : goal.block-answer-requires
block-answer-requires t c = less _ _ c.statements-rest.ensures c.requires

pub block-returns : goal.block-returns
block-returns t c =
    both_taken _ _ _ c.statements-rest.ensures c.answer.ensures
    ∙ ap (λ (ss : List Stmt). c.args.left - (sum (map (stmt_weight (known_weights c.args.known)) ss) + answer_weight (known_weights c.args.known)
    c.args.block.now.answer)) c.as_slice.ensures

pub statement-returns-then-left-eq0 : goal.statement-returns-then-left-eq0
statement-returns-then-left-eq0 t c = spent _ c.if-left-eq0.true

pub statement-source-requires : goal.statement-source-requires
statement-source-requires t c = one_less c.requires

pub statement-returns-in-Let : goal.statement-returns-in-Let
statement-returns-in-Let t c = after_one _ _ c.source.ensures (weighed_let (known_weights c.args.known) _ _ c.in-Let.is)

pub statement-indices-rest-requires : goal.statement-indices-rest-requires
statement-indices-rest-requires t c = one_less c.requires

pub statement-source-requires-in-Assign : goal.statement-source-requires-in-Assign
statement-source-requires-in-Assign t c = less_after_one _ _ c.indices-rest.ensures c.requires

pub statement-returns-in-Assign : goal.statement-returns-in-Assign
statement-returns-in-Assign t c =
    after_two _ _ _ c.indices-rest.ensures c.source-in-Assign.ensures
    (weighed_assign (known_weights c.args.known) _ _ _ c.in-Assign.is c.as_slice.ensures)

pub statement-expression-rest-requires : goal.statement-expression-rest-requires
statement-expression-rest-requires t c = one_less c.requires

pub statement-returns-in-If : goal.statement-returns-in-If
statement-returns-in-If t c =
    after_three _ _ _ _ c.expression-rest.ensures c.block-rest.ensures c.block.ensures
    (weighed_if (known_weights c.args.known) _ _ _ c.in-If.is)

pub statement-repeated-requires-clause-within : goal.statement-repeated-requires-clause-within
statement-repeated-requires-clause-within t c = one_less c.requires

pub statement-repeated-requires-clause-less : goal.statement-repeated-requires-clause-less
statement-repeated-requires-clause-less t c = within _ (stepped _ _ c.saturating_sub.ensures c.block-after_one.ensures)

pub statement-returns-in-For : goal.statement-returns-in-For
statement-returns-in-For t c =
    after_one _ _ (c.repeated.ensures _ (stepped _ _ c.saturating_sub.ensures c.block-after_one.ensures))
    (weighed_for (known_weights c.args.known) _ _ _ _ c.in-For.is)

pub statement-expressions-requires : goal.statement-expressions-requires
statement-expressions-requires t c = one_less c.requires

pub statement-returns-in-Call : goal.statement-returns-in-Call
statement-returns-in-Call t c =
    after_one _ _ c.expressions.ensures (weighed_call (known_weights c.args.known) _ _ c.in-Call.is c.as_slice-in-Call.ensures)

pub statements-loop-one-init : goal.statements-loop-one-init
statements-loop-one-init t c = record { same = refl; within = le_refl _ }

pub statements-loop-one-preserved : goal.statements-loop-one-preserved
statements-loop-one-preserved t c = record {
  same = next (stmt_weight (known_weights c.args.known)) c.args.statements.now c.loop-one.one-index c.one-item.result c.loop-one.rest c.loop-one-test.true
      c.one-item.is c.statement-rest.ensures c.loop-one.invariant.same;
  within = le_trans (within _ c.statement-rest.ensures) c.loop-one.invariant.within;
}

pub statements-returns : goal.statements-returns
statements-returns t c =
    all (stmt_weight (known_weights c.args.known)) c.args.statements.now c.loop-one.one-index c.loop-one.rest c.loop-one-test.false c.loop-one.invariant.same
