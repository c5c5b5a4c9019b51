use Rattle.ygg_eval_expr.proofs.Called.{Missing}
use Rattle.ygg_eval_expr.proofs.evaluator.definition.Given as goal

-- those so far have other names
abbrev pub invariant-loop-place : goal.invariant-loop-place
invariant-loop-place l = Missing l.defs l.name l.place
