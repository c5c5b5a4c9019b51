use Rattle.ygg_sym_runs.proofs.ExpressionPlaced.{TermsMissing}
use Rattle.ygg_sym_runs.proofs.evaluator.definition.Given as goal

-- those so far have other names
abbrev pub invariant-loop-place : goal.invariant-loop-place
invariant-loop-place l = TermsMissing l.defs l.name l.place
